-- inner
-- How the value of a book is stored: as the tuple of its parts. This project's own profile.
use Rattle.std.specs.{Prelude.{List, refl}, Coded.{Coded, code_by, coded×, coded_list}}
use Rattle.perf_base.specs.contracts.{acts.Act.{the_row as act_row}, reply.Answer.{the_row as answer_row}, script.Script.{the_row as script_row}}
use Rattle.perf_base.specs.{declared.{acts.Act.{Act}, reply.Answer.{Answer}}, Scripts.{Scripted}}
use Rattle.machine.specs.{Codes.{kept_code}, Leading.{Kept}}
use Rattle.perf_book.specs.Book.{Booked}

abbrev pub booked_code : Coded Booked
booked_code =
    code_by (Scripted × (Kept × (List Act × List Answer))) (coded× script_row.coded (coded× kept_code (coded× (coded_list act_row.coded) (coded_list answer_row.coded))))
    (λ b. (b.script, (b.machine, (b.order, b.answers)))) (λ p. record { script = p.0; machine = p.1.0; order = p.1.1.0; answers = p.1.1.1 }) (λ _. refl)

-- Lists of a report that are written entry by entry, and the parts of its text.
use Rattle.std.{specs.Prelude.{◌≡◌, ℕ, List, [], ◌∷◌, ◌++◌, flat_map, codes, decimal}, proofs.Common.{refl, sym, ap, append_assoc}}
use Rattle.perf_base.specs.{declared.{acts.Act.{Act}, numbers.{EventNo.{EventNo}, RingNo.{RingNo}}, reply.Answer.{Answer}}, Scripts.{Scripted}}
use Rattle.report_spec.specs.Report.{answer_line, answer_lines, answer_text, numbers_text, slots_text}
use Rattle.script_spec.specs.Acts.{acts_text}
use Rattle.script_print.proofs.Loops.{IsText}
use Rattle.report.specs.{Said.{seat_text}, Told.{all_told, told_report}}
use Rattle.sample_ring.specs.declared.sent.RingNumbers.{RingNumbers}

pub numbers_each : IsText numbers_text (λ n. 32 ∷ decimal n)
numbers_each = record { nil = refl; cons = λ n numbers. refl }

pub slots_each : IsText slots_text (λ e. 32 ∷ decimal e.0)
slots_each = record { nil = refl; cons = λ e slots. refl }

-- a seat is a slot and then a counter
pub seat-parts : (s : EventNo × ℕ) → (32 ∷ decimal s.0.0) ++ (61 ∷ decimal s.1) ≡ seat_text s
seat-parts s = ap (λ t. 32 ∷ t) (sym (append_assoc (decimal s.0.0) (61 ∷ []) (decimal s.1)))

pub seats_each : IsText (flat_map seat_text) seat_text
seats_each = record { nil = refl; cons = λ s seats. refl }

pub answers_each : (s : Scripted) → IsText (answer_lines s) (λ a. answer_line s a.actor a.number (answer_text a.reply))
answers_each s = record { nil = refl; cons = λ a answers. refl }

in_a_row : (a b c d e f g : List ℕ) → (a ++ (b ++ c)) ++ (d ++ (e ++ (f ++ g))) ≡ a ++ b ++ c ++ d ++ e ++ f ++ g
in_a_row a b c d e f g = simp append_assoc

-- the whole, in its parts
pub report-parts : (s : Scripted) (order : List Act) (answers : List Answer) (rings : List (RingNo × RingNumbers × List ℕ))
    → (codes "order" ++ (acts_text order ++ 10 ∷ [])) ++ (answer_lines s answers ++ (all_told rings ++ codes "end\n")) ≡ told_report s order answers rings
report-parts s order answers rings = in_a_row (codes "order") (acts_text order) (10 ∷ []) (answer_lines s answers) (all_told rings) (codes "end") (10 ∷ [])

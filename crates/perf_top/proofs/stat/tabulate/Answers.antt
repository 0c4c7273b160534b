use Rattle.std.{specs.Prelude.{List}, proofs.Common.{ap, subst, sym, ◌∙◌}}
use Rattle.perf_base.specs.{declared.acts.Act.{Act}, Scripts.{Scripted}}
use Rattle.machine.specs.Leading.{Kept, LeadTo}
use Rattle.perf_book.specs.Book.{Booked}
use Rattle.stat_rows.specs.Rows.{rows_of}
use Rattle.perf_top.proofs.stat.tabulate.Goals as goal

pub returns-clause-rows : goal.returns-clause-rows
returns-clause-rows c =
    let b : Booked = c.args.book.now in
    let led : LeadTo b.script b.script.order b.machine = subst (λ (o : List Act). LeadTo b.script o b.machine) c.requires.order c.machine.ensures.sound.led in
    let lent : LeadTo c.script.result.now b.script.order c.machine.result.now =
    subst (λ (s : Scripted). LeadTo s b.script.order c.machine.result.now) (sym c.script.ensures.script)
    (subst (λ (m : Kept). LeadTo b.script b.script.order m) (sym c.machine.ensures.machine) led) in
    c.fill_rows.ensures.rows b.script.order lent ∙ ap (λ (s : Scripted). rows_of s b.script.order) c.script.ensures.script

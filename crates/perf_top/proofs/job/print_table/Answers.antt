use Rattle.std.proofs.Common.{◌≡◌, ap, subst, ◌∙◌}
use Rattle.perf_base.specs.Scripts.{Scripted}
use Rattle.ring_spec.specs.Rings.{IsLawfulOrder}
use Rattle.stat_rows.specs.Rows.{rows_of}
use Rattle.stat_table.specs.Table.{table_text}
use Rattle.perf_top.proofs.Ending.{sent}
use Rattle.perf_ask.specs.declared.asked.Asked.TheVariants as asked
use Rattle.perf_top.proofs.job.print_table.Goals as goal

pub returns-in-Ok-clause-ending : goal.returns-in-Ok-clause-ending
returns-in-Ok-clause-ending g c =
    let s : Scripted = c.args.ordered.ready in
    let same : c.in-Ok.replayed ≡ s = c.in-Ok.ensures.done in
    let table = c.table_of.ensures in
    sent g.K.Sink.shows asked.Stat s (table_text c.table_of.result.rows.items) c.send.result c.args.sink.now c.send.new.sink
    (subst (λ (t : Scripted). IsLawfulOrder t t.order) same table.lawful, ap table_text (table.rows ∙ ap (λ (t : Scripted). rows_of t t.order) same)) c.send.ensures.only
    c.send.ensures.done c.send.ensures.fault

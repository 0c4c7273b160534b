use Rattle.std.specs.Prelude.{◌≡◌, ◌⊎◌}
use Rattle.perf_base.specs.declared.reasons.SReason.TheVariants as s_reason
use Rattle.stage_spec.specs.Order.{IsComplete}
use Rattle.perf_ask.specs.{Asking.{DoesOrder}, Reading.{IsRefusal}, declared.{asked.Asked.{Asked}, status.Status.{Status}}}
use Rattle.perf_ask.proofs.Refusing.{if-err, no-order}
use Rattle.perf_ask.specs.declared.status.Status.TheVariants as status
use Rattle.perf_top.proofs.job.read_ordered.Goals as goal

pub returns-in-Ok-clause-refused : goal.returns-in-Ok-clause-refused
returns-in-Ok-clause-refused g c =
    let read = c.in-Ok.ensures.ok in
    if-err (λ (why : Status). (why ≡ status.NoMemory)
    ⊎ ((IsComplete c.in-Ok.loaded.script c.in-Ok.loaded.script.order → ⊥) × (why ≡ status.BadScript c.in-Ok.loaded.last_line s_reason.Order)))
    (λ (why : Status). (a : Asked) → DoesOrder a → IsRefusal g.S.Source.shows a why c.args.source.now c.load.new.source)
    (λ why h a order.
    no-order g.S.Source.shows a why read.0 c.in-Ok.loaded.script c.in-Ok.loaded.last_line c.args.source.now c.load.new.source order read.1 read.2 read.3 h)
    c.order_of.result c.order_of.ensures.refused

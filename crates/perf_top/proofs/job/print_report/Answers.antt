use Rattle.std.proofs.Common.{◌≡◌, ap, ◌∙◌}
use Rattle.perf_base.specs.Scripts.{Scripted}
use Rattle.report.specs.Told.{report_by}
use Rattle.perf_top.proofs.{Ending.{sent}, Reported.{reported-as}}
use Rattle.perf_ask.specs.declared.asked.Asked.TheVariants as asked
use Rattle.perf_top.proofs.job.print_report.Goals as goal

pub returns-in-Ok-clause-ending : goal.returns-in-Ok-clause-ending
returns-in-Ok-clause-ending g c =
    let s : Scripted = c.args.ordered.ready in
    let same : c.in-Ok.replayed ≡ s = c.in-Ok.ensures.done in
    let ended = c.finish-ended.ensures in
    sent g.K.Sink.shows asked.Replay s (report_by c.finish-ended.result) c.send.result c.args.sink.now c.send.new.sink
    (reported-as s s.order c.finish-ended.result (ended.script ∙ same) (ended.order ∙ ap (λ (t : Scripted). t.order) same) ended.ended) c.send.ensures.only c.send.ensures.done
    c.send.ensures.fault

use Rattle.std.{specs.Prelude.{◌≡◌, List}, proofs.Common.{subst, ◌∙◌}}
use Rattle.perf_base.specs.{declared.acts.Act.{Act}, Scripts.{Scripted}}
use Rattle.run_end.specs.Ended.{Ran}
use Rattle.report.specs.Told.{report_by}
use Rattle.perf_top.{specs.Outcome.{IsReported, IsRun}, proofs.{Ending.{sent}, Reported.{end-reported}}}
use Rattle.perf_ask.specs.declared.asked.Asked.TheVariants as asked
use Rattle.perf_top.proofs.running.RunJob.finish.Goals as goal

pub returns-clause-ending : goal.returns-clause-ending
returns-clause-ending g c =
    let e : Ran = c.run_ready-ended.result in
    let same : e.script ≡ c.args.self = c.run_ready-ended.ensures.script ∙ c.self.view_is in
    sent g.K.Sink.shows asked.Run c.args.self (report_by e) c.send.result c.args.sink.now c.send.new.sink
    (subst (λ (s : Scripted). (order : List Act) × IsRun s order × IsReported s order (report_by e)) same (e.order, c.run_ready-ended.ensures.run, end-reported e c.run_ready-ended.ensures.ended))
    c.send.ensures.only c.send.ensures.done c.send.ensures.fault

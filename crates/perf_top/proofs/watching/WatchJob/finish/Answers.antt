use Rattle.std.{specs.Prelude.{ℕ, List, ◌++◌}, proofs.Common.{ap, refl, subst}}
use Rattle.perf_base.specs.{declared.numbers.EventNo.{EventNo}, Scripts.{Scripted}}
use Rattle.run_end.specs.Ended.{Ran}
use Rattle.report.specs.Told.{report_by}
use Rattle.report_spec.specs.Published.{final_line, watch_line}
use Rattle.perf_top.{specs.Outcome.{IsEnding, IsOutput}, proofs.{Ending.{sent}, Reported.{end-reported}}}
use Rattle.perf_ask.specs.declared.asked.Asked.TheVariants as asked
use Rattle.perf_top.proofs.watching.WatchJob.finish.Goals as goal

pub returns-clause-ending : goal.returns-clause-ending
returns-clause-ending g c =
    let seen = c.watch_ready-seen in
    let e : Ran = seen.result.ended in
    let w : ℕ × ℕ = c.self.inside.watching in
    let lines : List ℕ = watch_line c.event-event.result seen.result.look ++ final_line c.event-event.result seen.result.last in
    subst (λ (j : (ℕ × ℕ) × Scripted). IsEnding g.K.Sink.shows (asked.Watch j.0) j.1 c.send.result c.args.sink.now c.send.new.sink) c.self.view_is
    (sent g.K.Sink.shows (asked.Watch w) c.self.inside.ready (report_by e ++ lines) c.send.result c.args.sink.now c.send.new.sink
    (subst (λ (s : Scripted). IsOutput (asked.Watch w) s (report_by e ++ lines)) seen.ensures.script (
      e.order,
      report_by e,
      lines,
      seen.ensures.run,
      end-reported e seen.ensures.ended,
      record {
        seen = seen.result.look;
        final = seen.result.last;
        published = seen.ensures.seen;
        last = seen.ensures.last;
        written = ap (λ (v : EventNo). watch_line v seen.result.look ++ final_line v seen.result.last) c.event-event.ensures;
      },
      refl,
    ))
    c.send.ensures.only c.send.ensures.done c.send.ensures.fault)

use Rattle.std.proofs.Common.{◌≡◌, Ok, take}
use Rattle.perf_io.specs.Wrote.{Wrote}
use Rattle.report_spec.specs.Report.{answer_lines}
use Rattle.report.proofs.answers.write_answers.Given as goal

abbrev pub invariant-loop-place : goal.invariant-loop-place
invariant-loop-place g l = record {
  wrote : Wrote g.K.Sink.shows l.fn.sink l.sink (Ok tt) (answer_lines l.script (take l.place l.answers.items));
  flushed : g.K.Sink.shows.flushed l.sink ≡ g.K.Sink.shows.flushed l.fn.sink;
}

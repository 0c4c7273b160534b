use Rattle.std.proofs.Common.{◌≡◌, Ok, take}
use Rattle.perf_io.specs.Wrote.{Wrote}
use Rattle.report_spec.specs.Report.{numbers_text}
use Rattle.report.proofs.said.put_numbers.Given as goal

abbrev pub invariant-loop-word : goal.invariant-loop-word
invariant-loop-word g l = record {
  wrote : Wrote g.K.Sink.shows l.fn.sink l.sink (Ok tt) (numbers_text (take l.word-index l.words));
  flushed : g.K.Sink.shows.flushed l.sink ≡ g.K.Sink.shows.flushed l.fn.sink;
}

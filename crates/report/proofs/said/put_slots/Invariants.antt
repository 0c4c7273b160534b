use Rattle.std.proofs.Common.{◌≡◌, Ok, take}
use Rattle.perf_io.specs.Wrote.{Wrote}
use Rattle.report_spec.specs.Report.{slots_text}
use Rattle.report.proofs.said.put_slots.Given as goal

abbrev pub invariant-loop-slot : goal.invariant-loop-slot
invariant-loop-slot g l = record {
  wrote : Wrote g.K.Sink.shows l.fn.sink l.sink (Ok tt) (slots_text (take l.slot-index l.slots));
  flushed : g.K.Sink.shows.flushed l.sink ≡ g.K.Sink.shows.flushed l.fn.sink;
}

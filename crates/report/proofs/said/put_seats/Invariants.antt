use Rattle.std.{proofs.Common.{◌≡◌, Ok, take}, specs.Prelude.{flat_map}}
use Rattle.perf_io.specs.Wrote.{Wrote}
use Rattle.report.specs.Said.{seat_text}
use Rattle.report.proofs.said.put_seats.Given as goal

abbrev pub invariant-loop-seat : goal.invariant-loop-seat
invariant-loop-seat g l = record {
  wrote : Wrote g.K.Sink.shows l.fn.sink l.sink (Ok tt) (flat_map seat_text (take l.seat-index l.seats));
  flushed : g.K.Sink.shows.flushed l.sink ≡ g.K.Sink.shows.flushed l.fn.sink;
}

use Rattle.std.proofs.Common.{◌≡◌, ◌≤◌, ◌-◌, length, take}
use Rattle.perf_io.specs.Outside.{Adds}
use Rattle.perf_io.proofs.writing.write_all.Given as goal

abbrev pub invariant-loop-done : goal.invariant-loop-done
invariant-loop-done g l = record {
  within : l.done ≤ length l.piece;
  count : g.K.Sink.shows.faults l.initial.sink ≤ g.K.Sink.shows.faults l.sink;
  added : Adds (g.K.Sink.shows.held l.initial.sink) (g.K.Sink.shows.held l.sink) (take l.done l.piece);
  flushed : g.K.Sink.shows.flushed l.sink ≡ g.K.Sink.shows.flushed l.initial.sink;
  nothing : length l.piece ≡ 0 → l.sink ≡ l.initial.sink;
}

abbrev pub decreases-loop-done : goal.decreases-loop-done
decreases-loop-done g l = length l.piece - l.done

use Rattle.std.proofs.Common.{◌≡◌, ◌≤◌, ◌-◌, length, take, Ok}
use Rattle.perf_io.specs.Wrote.{Wrote}
use Rattle.text_tests.proofs.sinks.SlowWritten.write_to.Given as goal

abbrev pub invariant-loop-done : goal.invariant-loop-done
invariant-loop-done g l =
    let K = g.K.Sink in
    record {
      within : l.done ≤ length l.bytes;
      wrote : Wrote K.shows l.initial.sink l.sink (Ok tt) (take l.done l.bytes);
      flushed : K.shows.flushed l.sink ≡ K.shows.flushed l.initial.sink;
    }

abbrev pub decreases-loop-done : goal.decreases-loop-done
decreases-loop-done g l = length l.bytes - l.done

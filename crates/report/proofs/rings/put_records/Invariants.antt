use Rattle.std.proofs.Common.{◌≡◌, ◌+◌, ◌*◌, Result, length}
use Rattle.perf_io.specs.{Wrote.{Wrote}, declared.outside.Failed.{Failed}}
use Rattle.report.specs.Told.{cut_lines, cut_records}
use Rattle.report.proofs.rings.put_records.Given as goal

-- whatever writes the lines of the rest now has written all
abbrev pub invariant-loop-rest : goal.invariant-loop-rest
invariant-loop-rest g l = record {
  place : l.place + 8 * length l.rest ≡ 8 * length l.words;
  wrote : (after : g.row.K.Denot) (r : Result (Unit {0}) Failed) → Wrote g.K.Sink.shows l.sink after r (cut_lines l.tail l.place (cut_records l.rest))
      → Wrote g.K.Sink.shows l.fn.sink after r (cut_lines l.tail 0 (cut_records l.words));
  flushed : g.K.Sink.shows.flushed l.sink ≡ g.K.Sink.shows.flushed l.fn.sink;
}

abbrev pub decreases-loop-rest : goal.decreases-loop-rest
decreases-loop-rest g l = length l.rest

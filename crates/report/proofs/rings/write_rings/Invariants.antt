use Rattle.std.proofs.Common.{◌≡◌, Ok, map, take}
use Rattle.perf_io.specs.Wrote.{Wrote}
use Rattle.run_end.specs.Ended.{words_in}
use Rattle.report.specs.Told.{all_told}
use Rattle.report.proofs.rings.write_rings.Given as goal

abbrev pub invariant-loop-end : goal.invariant-loop-end
invariant-loop-end g l = record {
  wrote : Wrote g.K.Sink.shows l.fn.sink l.sink (Ok tt)
      (all_told (map (λ e. (e.ring, e.numbers, words_in l.ended.ins e.ring)) (take l.end-index l.end-items)));
  flushed : g.K.Sink.shows.flushed l.sink ≡ g.K.Sink.shows.flushed l.fn.sink;
}

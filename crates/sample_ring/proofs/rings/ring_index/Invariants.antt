use Rattle.std.proofs.Common.{◌≡◌, ℕ, ◌<◌, eqb, false, get_or}
use Rattle.perf_base.specs.declared.numbers.RingNo.{RingNo}
use Rattle.sample_ring.proofs.rings.ring_index.Given as goal

abbrev pub invariant-loop-place : goal.invariant-loop-place
invariant-loop-place l = (k : ℕ) (d : RingNo) → k < l.place → eqb (get_or l.numbers k d).0 l.ring.0 ≡ false

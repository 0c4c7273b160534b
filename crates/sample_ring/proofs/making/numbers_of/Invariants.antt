use Rattle.std.proofs.Common.{◌≡◌, map, take}
use Rattle.sample_ring.proofs.making.numbers_of.Given as goal

abbrev pub invariant-loop-ring : goal.invariant-loop-ring
invariant-loop-ring l = l.numbers.items ≡ map (λ s. s.0) (take l.ring-index l.sizes)

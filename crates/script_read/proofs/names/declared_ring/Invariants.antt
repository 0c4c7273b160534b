use Rattle.std.proofs.Common.{◌≡◌, All, take}
use Rattle.script_read.proofs.names.declared_ring.Given as goal

abbrev pub invariant-loop-ring : goal.invariant-loop-ring
invariant-loop-ring l = All (λ r. (r.0 ≡ record { 0 = l.number }) → ⊥) (take l.ring-index l.rings)

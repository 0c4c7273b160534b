use Rattle.std.proofs.Common.{lit≤, refl}
use Rattle.ring_tests.proofs.rings.three_blocks_fill_a_small_ring.Goals as goal

pub make_ring-requires : goal.make_ring-requires
make_ring-requires g c = (6, lit≤ tt, lit≤ tt, refl)

use Rattle.std.proofs.Common.{lit≤, refl}
use Rattle.ring_tests.proofs.sends.two_threads_share_a_small_ring.Goals as goal

pub share-requires-clause-size : goal.share-requires-clause-size
share-requires-clause-size g c k = (6, lit≤ tt, lit≤ tt, refl)

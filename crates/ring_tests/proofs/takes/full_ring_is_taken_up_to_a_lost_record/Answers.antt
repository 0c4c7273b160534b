use Rattle.std.proofs.Common.{lit≤, refl}
use Rattle.ring_tests.proofs.takes.full_ring_is_taken_up_to_a_lost_record.Goals as goal

pub run-requires : goal.run-requires
run-requires g c = (6, lit≤ tt, lit≤ tt, refl)

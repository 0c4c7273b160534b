use Rattle.std.proofs.Common.{lit≤, refl}
use Rattle.ring_tests.proofs.takes.records_of_several_sizes_are_taken_to_each_end.Goals as goal

pub run-requires : goal.run-requires
run-requires g c = (7, lit≤ tt, lit≤ tt, refl)

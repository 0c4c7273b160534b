use Rattle.world_spec.proofs.Families.{copies-are, family-ids, family-sums}
use Rattle.world_spec.proofs.laws.families_are_whole.Goals as goal

pub returns : goal.returns
returns c = record { ids = family-ids; sums = family-sums; copies = copies-are }

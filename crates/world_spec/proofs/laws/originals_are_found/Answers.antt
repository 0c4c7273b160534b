use Rattle.world_spec.proofs.{Families.{group-is, open-is, original-is}, Staying.{origin-is}}
use Rattle.world_spec.proofs.laws.originals_are_found.Goals as goal

pub returns : goal.returns
returns c = record { original = original-is; opened = open-is; group = group-is; origin = origin-is }

use Rattle.world_spec.proofs.Ways.{outside-group, outside-context}
use Rattle.world_spec.proofs.laws.ways_are_reached.Goals as goal

pub returns : goal.returns
returns c = record { group = outside-group; context = outside-context }

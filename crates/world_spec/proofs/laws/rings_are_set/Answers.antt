use Rattle.world_spec.proofs.Keeping.{ring-stage, ring-kept}
use Rattle.world_spec.proofs.laws.rings_are_set.Goals as goal

pub returns : goal.returns
returns c = record { stage = ring-stage; kept = ring-kept }

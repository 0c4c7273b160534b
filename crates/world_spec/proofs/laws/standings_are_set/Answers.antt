use Rattle.world_spec.proofs.Keeping.{standing-stage, standing-kept}
use Rattle.world_spec.proofs.laws.standings_are_set.Goals as goal

pub returns : goal.returns
returns c = record { stage = standing-stage; kept = standing-kept }

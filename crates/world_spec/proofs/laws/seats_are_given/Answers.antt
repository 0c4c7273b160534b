use Rattle.world_spec.proofs.Keeping.{seats-stage, seats-kept}
use Rattle.world_spec.proofs.laws.seats_are_given.Goals as goal

pub returns : goal.returns
returns c = record { stage = seats-stage; kept = seats-kept }

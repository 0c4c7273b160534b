use Rattle.world_spec.proofs.Placing.{place-stage, place-kept}
use Rattle.world_spec.proofs.laws.tasks_are_placed.Goals as goal

pub returns : goal.returns
returns c = record { stage = place-stage; kept = place-kept }

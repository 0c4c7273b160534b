use Rattle.world_spec.proofs.Placing.{end-stage, end-kept}
use Rattle.world_spec.proofs.laws.tasks_end.Goals as goal

pub returns : goal.returns
returns c = record { stage = end-stage; kept = end-kept }

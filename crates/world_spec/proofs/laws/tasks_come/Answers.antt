use Rattle.world_spec.proofs.Placing.{task-stage, task-kept}
use Rattle.world_spec.proofs.laws.tasks_come.Goals as goal

pub returns : goal.returns
returns c = record { stage = task-stage; kept = task-kept }

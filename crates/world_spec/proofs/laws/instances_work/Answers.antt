use Rattle.world_spec.proofs.Working.{on-is, ready-is}
use Rattle.world_spec.proofs.laws.instances_work.Goals as goal

pub returns : goal.returns
returns c = record { on = on-is; ready = ready-is }

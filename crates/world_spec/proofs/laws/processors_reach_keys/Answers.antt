use Rattle.world_spec.proofs.Along.{on-keys, ready-keys, reached-keys}
use Rattle.world_spec.proofs.laws.processors_reach_keys.Goals as goal

pub returns : goal.returns
returns c = record { on = on-keys; ready = ready-keys; reached = reached-keys }

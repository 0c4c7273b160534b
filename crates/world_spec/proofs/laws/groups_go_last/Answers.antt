use Rattle.world_spec.proofs.Moving.{move-stage, move-kept}
use Rattle.world_spec.proofs.laws.groups_go_last.Goals as goal

pub returns : goal.returns
returns c = record { stage = move-stage; kept = move-kept }

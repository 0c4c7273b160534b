use Rattle.world_spec.proofs.{AddedKept.{add-kept}, AddedStage.{add-stage, open-stage}}
use Rattle.world_spec.proofs.laws.instances_come.Goals as goal

pub returns : goal.returns
returns c = record { stage = add-stage; opened = open-stage; kept = add-kept }

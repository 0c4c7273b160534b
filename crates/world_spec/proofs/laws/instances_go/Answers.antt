use Rattle.world_spec.proofs.Dropping.{go-kept, go-stage}
use Rattle.world_spec.proofs.laws.instances_go.Goals as goal

pub returns : goal.returns
returns c = record { stage = go-stage; kept = go-kept }

use Rattle.world_spec.proofs.First.{first-kept, first-stage}
use Rattle.world_spec.proofs.laws.worlds_begin.Goals as goal

pub returns : goal.returns
returns c = record { stage = first-stage; kept = first-kept }

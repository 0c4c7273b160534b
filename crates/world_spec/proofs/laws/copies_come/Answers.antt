use Rattle.world_spec.proofs.Copying.{copy-kept, copy-stage}
use Rattle.world_spec.proofs.laws.copies_come.Goals as goal

pub returns : goal.returns
returns c = record { stage = copy-stage; kept = copy-kept }

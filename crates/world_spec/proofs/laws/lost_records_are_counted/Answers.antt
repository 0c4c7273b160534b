use Rattle.world_spec.proofs.Keeping.{lost-stage, lost-kept}
use Rattle.world_spec.proofs.laws.lost_records_are_counted.Goals as goal

pub returns : goal.returns
returns c = record { stage = lost-stage; kept = lost-kept }

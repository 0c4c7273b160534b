use Rattle.world_spec.proofs.Stepping.{stepped}
use Rattle.world_spec.proofs.laws.steps_lead_to_records.Goals as goal

pub returns : goal.returns
returns c = stepped

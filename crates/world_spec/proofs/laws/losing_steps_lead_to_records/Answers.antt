use Rattle.world_spec.proofs.Stepping.{stepped-losing}
use Rattle.world_spec.proofs.laws.losing_steps_lead_to_records.Goals as goal

pub returns : goal.returns
returns c = stepped-losing

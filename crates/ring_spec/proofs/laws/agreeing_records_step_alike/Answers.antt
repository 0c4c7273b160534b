use Rattle.ring_spec.proofs.Agreement.{step_agrees}
use Rattle.ring_spec.proofs.laws.agreeing_records_step_alike.Goals as goal

pub returns : goal.returns
returns c = step_agrees

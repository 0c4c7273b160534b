use Rattle.ring_spec.proofs.Agreement.{answer_agrees}
use Rattle.ring_spec.proofs.laws.agreeing_records_answer_alike.Goals as goal

pub returns : goal.returns
returns c = answer_agrees

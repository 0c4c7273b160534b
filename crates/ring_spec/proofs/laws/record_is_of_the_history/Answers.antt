use Rattle.ring_spec.proofs.Running.{record_law}
use Rattle.ring_spec.proofs.laws.record_is_of_the_history.Goals as goal

pub returns : goal.returns
returns c = record_law

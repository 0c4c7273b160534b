use Rattle.ring_laws.proofs.Taken.{few-taken}
use Rattle.ring_laws.proofs.runs.tails_bound_records_taken.Goals as goal

pub returns : goal.returns
returns c = few-taken

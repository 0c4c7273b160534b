use Rattle.ring_laws.proofs.Few.{few_sent}
use Rattle.ring_laws.proofs.laws.few_records_are_sent.Goals as goal

pub returns : goal.returns
returns c = few_sent

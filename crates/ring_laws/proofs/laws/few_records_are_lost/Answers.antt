use Rattle.ring_laws.proofs.Losses.{few_lost}
use Rattle.ring_laws.proofs.laws.few_records_are_lost.Goals as goal

pub returns : goal.returns
returns c = few_lost

use Rattle.ring_laws.proofs.Taken.{few-taken-of}
use Rattle.ring_laws.proofs.runs.readers_take_few_records.Goals as goal

pub returns : goal.returns
returns c = few-taken-of

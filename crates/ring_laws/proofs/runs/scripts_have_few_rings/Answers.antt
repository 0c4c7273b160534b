use Rattle.ring_laws.proofs.Rings.{few-rings}
use Rattle.ring_laws.proofs.runs.scripts_have_few_rings.Goals as goal

pub returns : goal.returns
returns c = few-rings

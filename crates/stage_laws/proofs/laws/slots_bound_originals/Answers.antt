use Rattle.stage_laws.proofs.Originals.{few_originals}
use Rattle.stage_laws.proofs.laws.slots_bound_originals.Goals as goal

pub returns : goal.returns
returns c = few_originals

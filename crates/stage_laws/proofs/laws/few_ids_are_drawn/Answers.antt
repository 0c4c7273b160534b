use Rattle.stage_laws.proofs.BoundsWhole.{few_ids}
use Rattle.stage_laws.proofs.laws.few_ids_are_drawn.Goals as goal

pub returns : goal.returns
returns c = few_ids

use Rattle.stage_laws.proofs.BoundsWhole.{family_small}
use Rattle.stage_laws.proofs.laws.family_sums_are_small.Goals as goal

pub returns : goal.returns
returns c = family_small

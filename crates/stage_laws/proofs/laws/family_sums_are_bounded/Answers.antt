use Rattle.stage_laws.proofs.BoundsWhole.{family_at_most}
use Rattle.stage_laws.proofs.laws.family_sums_are_bounded.Goals as goal

pub returns : goal.returns
returns c = family_at_most

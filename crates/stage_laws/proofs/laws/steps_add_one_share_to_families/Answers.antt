use Rattle.stage_laws.proofs.BoundsStep.{family_shared}
use Rattle.stage_laws.proofs.laws.steps_add_one_share_to_families.Goals as goal

pub returns : goal.returns
returns c = family_shared

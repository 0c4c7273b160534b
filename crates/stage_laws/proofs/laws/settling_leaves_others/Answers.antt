use Rattle.stage_laws.proofs.Narrow.{settle_others}
use Rattle.stage_laws.proofs.laws.settling_leaves_others.Goals as goal

pub returns : goal.returns
returns c = settle_others

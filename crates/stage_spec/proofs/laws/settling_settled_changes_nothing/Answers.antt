use Rattle.stage_spec.proofs.Settled.{settles_once}
use Rattle.stage_spec.proofs.laws.settling_settled_changes_nothing.Goals as goal

pub returns : goal.returns
returns c = settles_once

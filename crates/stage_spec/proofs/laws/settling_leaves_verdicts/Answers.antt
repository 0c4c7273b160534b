use Rattle.stage_spec.proofs.Settled.{settled_verdicts}
use Rattle.stage_spec.proofs.laws.settling_leaves_verdicts.Goals as goal

pub returns : goal.returns
returns c = settled_verdicts

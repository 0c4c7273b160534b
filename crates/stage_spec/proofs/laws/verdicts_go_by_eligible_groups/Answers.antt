use Rattle.stage_spec.proofs.Settled.{verdicts_by_eligible}
use Rattle.stage_spec.proofs.laws.verdicts_go_by_eligible_groups.Goals as goal

pub returns : goal.returns
returns c = verdicts_by_eligible

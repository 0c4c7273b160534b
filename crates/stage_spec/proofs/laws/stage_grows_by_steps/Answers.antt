use Rattle.stage_spec.proofs.Recurrence.{stage_after-push}
use Rattle.stage_spec.proofs.laws.stage_grows_by_steps.Goals as goal

pub returns : goal.returns
returns c = stage_after-push

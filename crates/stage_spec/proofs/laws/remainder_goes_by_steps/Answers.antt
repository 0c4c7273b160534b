use Rattle.stage_spec.proofs.Remainders.{remainder_of-push}
use Rattle.stage_spec.proofs.laws.remainder_goes_by_steps.Goals as goal

pub returns : goal.returns
returns c = remainder_of-push

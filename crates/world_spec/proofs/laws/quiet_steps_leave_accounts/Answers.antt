use Rattle.world_spec.proofs.Quiet.{quiet-keeps}
use Rattle.world_spec.proofs.laws.quiet_steps_leave_accounts.Goals as goal

pub returns : goal.returns
returns c = quiet-keeps

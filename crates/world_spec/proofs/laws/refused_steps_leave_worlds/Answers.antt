use Rattle.world_spec.proofs.Quiet.{refused-steps}
use Rattle.world_spec.proofs.laws.refused_steps_leave_worlds.Goals as goal

pub returns : goal.returns
returns c = refused-steps

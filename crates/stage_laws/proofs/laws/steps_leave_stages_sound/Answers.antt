use Rattle.stage_laws.proofs.Sound.{step_sound}
use Rattle.stage_laws.proofs.laws.steps_leave_stages_sound.Goals as goal

pub returns : goal.returns
returns c = step_sound

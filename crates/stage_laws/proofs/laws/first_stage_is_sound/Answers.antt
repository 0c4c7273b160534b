use Rattle.stage_laws.proofs.Sound.{first_sound}
use Rattle.stage_laws.proofs.laws.first_stage_is_sound.Goals as goal

pub returns : goal.returns
returns c = first_sound

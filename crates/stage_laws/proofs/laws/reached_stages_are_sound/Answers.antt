use Rattle.stage_laws.proofs.Sound.{reached_sound}
use Rattle.stage_laws.proofs.laws.reached_stages_are_sound.Goals as goal

pub returns : goal.returns
returns c = reached_sound

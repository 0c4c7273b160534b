use Rattle.stage_laws.proofs.SoundLike.{settle_sound}
use Rattle.stage_laws.proofs.laws.settling_keeps_sound.Goals as goal

pub returns : goal.returns
returns c = settle_sound

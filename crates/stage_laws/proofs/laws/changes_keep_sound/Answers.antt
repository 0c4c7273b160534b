use Rattle.stage_laws.proofs.SoundLike.{changed_sound}
use Rattle.stage_laws.proofs.laws.changes_keep_sound.Goals as goal

pub returns : goal.returns
returns c = changed_sound

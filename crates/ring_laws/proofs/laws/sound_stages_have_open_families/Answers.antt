use Rattle.ring_laws.proofs.Families.{families_open}
use Rattle.ring_laws.proofs.laws.sound_stages_have_open_families.Goals as goal

pub returns : goal.returns
returns c = families_open

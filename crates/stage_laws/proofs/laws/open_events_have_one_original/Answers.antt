use Rattle.stage_laws.proofs.OneByOneFamilies.{family}
use Rattle.stage_laws.proofs.laws.open_events_have_one_original.Goals as goal

pub returns : goal.returns
returns c = family

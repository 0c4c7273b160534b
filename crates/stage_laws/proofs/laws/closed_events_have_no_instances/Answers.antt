use Rattle.stage_laws.proofs.OneByOneFamilies.{no_family}
use Rattle.stage_laws.proofs.laws.closed_events_have_no_instances.Goals as goal

pub returns : goal.returns
returns c = no_family

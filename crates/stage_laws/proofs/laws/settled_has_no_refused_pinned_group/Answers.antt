use Rattle.stage_laws.proofs.ByStandings.{settled_unrefused}
use Rattle.stage_laws.proofs.laws.settled_has_no_refused_pinned_group.Goals as goal

pub returns : goal.returns
returns c = settled_unrefused

use Rattle.stage_laws.proofs.Briefs.{standings-are}
use Rattle.stage_laws.proofs.laws.standings_are_judged_by_briefs.Goals as goal

pub returns : goal.returns
returns c = standings-are

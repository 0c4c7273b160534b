use Rattle.stage_laws.proofs.Briefs.{by_briefs}
use Rattle.stage_laws.proofs.laws.standings_go_by_briefs.Goals as goal

pub returns : goal.returns
returns c = by_briefs

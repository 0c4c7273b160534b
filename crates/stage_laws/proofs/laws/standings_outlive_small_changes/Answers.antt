use Rattle.stage_laws.proofs.ByStandings.{same_standings}
use Rattle.stage_laws.proofs.laws.standings_outlive_small_changes.Goals as goal

pub returns : goal.returns
returns c = same_standings

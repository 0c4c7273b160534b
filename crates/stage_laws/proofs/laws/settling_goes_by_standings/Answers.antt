use Rattle.stage_laws.proofs.ByStandings.{settles_by_standings}
use Rattle.stage_laws.proofs.laws.settling_goes_by_standings.Goals as goal

pub returns : goal.returns
returns c = settles_by_standings

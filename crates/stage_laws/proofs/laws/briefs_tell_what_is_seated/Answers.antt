use Rattle.stage_laws.proofs.Briefs.{seated-are}
use Rattle.stage_laws.proofs.laws.briefs_tell_what_is_seated.Goals as goal

pub returns : goal.returns
returns c = seated-are

use Rattle.stage_laws.proofs.Narrow.{narrows}
use Rattle.stage_laws.proofs.laws.steps_narrow.Goals as goal

pub returns : goal.returns
returns c = narrows

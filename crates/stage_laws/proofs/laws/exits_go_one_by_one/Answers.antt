use Rattle.stage_laws.proofs.OneByOneDrops.{exited_one_by_one}
use Rattle.stage_laws.proofs.laws.exits_go_one_by_one.Goals as goal

pub returns : goal.returns
returns c = exited_one_by_one

use Rattle.stage_laws.proofs.OneByOneDrops.{closed_one_by_one}
use Rattle.stage_laws.proofs.laws.closes_go_one_by_one.Goals as goal

pub returns : goal.returns
returns c = closed_one_by_one

use Rattle.stage_laws.proofs.OneByOneCopies.{forked_one_by_one}
use Rattle.stage_laws.proofs.laws.forks_go_one_by_one.Goals as goal

pub returns : goal.returns
returns c = forked_one_by_one

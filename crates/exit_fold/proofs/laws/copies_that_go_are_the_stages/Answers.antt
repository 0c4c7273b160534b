use Rattle.exit_fold.proofs.Leaving.{leaving-is}
use Rattle.exit_fold.proofs.laws.copies_that_go_are_the_stages.Goals as goal

pub returns : goal.returns
returns c = leaving-is

use Rattle.work_maker.proofs.Sound.{covered_law}
use Rattle.work_maker.proofs.laws.made_is_covered.Goals as goal

pub returns : goal.returns
returns c = covered_law

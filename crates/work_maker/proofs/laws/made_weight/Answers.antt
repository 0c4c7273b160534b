use Rattle.work_maker.proofs.Weights.{weight_law}
use Rattle.work_maker.proofs.laws.made_weight.Goals as goal

pub returns : goal.returns
returns c = weight_law

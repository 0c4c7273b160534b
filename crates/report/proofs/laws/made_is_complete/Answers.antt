use Rattle.report.proofs.MadeOrder.{complete_law}
use Rattle.report.proofs.laws.made_is_complete.Goals as goal

pub returns : goal.returns
returns c = complete_law

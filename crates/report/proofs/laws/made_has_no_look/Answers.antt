use Rattle.report.proofs.MadeOrder.{no_look_law}
use Rattle.report.proofs.laws.made_has_no_look.Goals as goal

pub returns : goal.returns
returns c = no_look_law

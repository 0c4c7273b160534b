use Rattle.report_spec.proofs.Published.{each-look}
use Rattle.report_spec.proofs.laws.each_published_look_is_of_an_act.Goals as goal

pub returns : goal.returns
returns c = each-look

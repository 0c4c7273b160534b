use Rattle.report_spec.proofs.Published.{one-more}
use Rattle.report_spec.proofs.laws.one_more_act_adds_its_look.Goals as goal

pub returns : goal.returns
returns c = one-more

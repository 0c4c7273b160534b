use Rattle.report_spec.proofs.Published.{follows}
use Rattle.report_spec.proofs.laws.looks_of_later_acts_may_follow.Goals as goal

pub returns : goal.returns
returns c = follows

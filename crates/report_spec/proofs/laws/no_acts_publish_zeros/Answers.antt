use Rattle.report_spec.proofs.Published.{no-acts}
use Rattle.report_spec.proofs.laws.no_acts_publish_zeros.Goals as goal

pub returns : goal.returns
returns c = no-acts

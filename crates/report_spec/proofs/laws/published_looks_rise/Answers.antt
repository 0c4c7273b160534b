use Rattle.report_spec.proofs.Published.{rises}
use Rattle.report_spec.proofs.laws.published_looks_rise.Goals as goal

pub returns : goal.returns
returns c = rises

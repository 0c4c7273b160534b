use Rattle.report_spec.proofs.Published.{fronts-begin}
use Rattle.report_spec.proofs.laws.fronts_publish_a_beginning.Goals as goal

pub returns : goal.returns
returns c = fronts-begin

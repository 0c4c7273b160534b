use Rattle.report_spec.proofs.Published.{rings-add-none}
use Rattle.report_spec.proofs.laws.looks_at_rings_publish_none.Goals as goal

pub returns : goal.returns
returns c = rings-add-none

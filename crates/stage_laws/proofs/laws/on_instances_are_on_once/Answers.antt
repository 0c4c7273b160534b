use Rattle.stage_laws.proofs.OneByOneFamilies.{on-once}
use Rattle.stage_laws.proofs.laws.on_instances_are_on_once.Goals as goal

pub returns : goal.returns
returns c = on-once

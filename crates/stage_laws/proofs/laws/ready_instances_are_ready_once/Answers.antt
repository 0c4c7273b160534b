use Rattle.stage_laws.proofs.OneByOneFamilies.{ready-once}
use Rattle.stage_laws.proofs.laws.ready_instances_are_ready_once.Goals as goal

pub returns : goal.returns
returns c = ready-once

use Rattle.stage_spec.proofs.Births.{births}
use Rattle.stage_spec.proofs.laws.instances_begin_with_nothing.Goals as goal

pub returns : goal.returns
returns c = births

use Rattle.stage_laws.proofs.OneByOne.{period-one}
use Rattle.stage_laws.proofs.laws.periods_change_one_instance.Goals as goal

pub returns : goal.returns
returns c = period-one

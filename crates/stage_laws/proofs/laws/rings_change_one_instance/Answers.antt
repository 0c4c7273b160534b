use Rattle.stage_laws.proofs.OneByOne.{ring-one}
use Rattle.stage_laws.proofs.laws.rings_change_one_instance.Goals as goal

pub returns : goal.returns
returns c = ring-one

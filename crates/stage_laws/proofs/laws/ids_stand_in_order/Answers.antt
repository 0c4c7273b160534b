use Rattle.stage_laws.proofs.OneByOne.{ids-in_order}
use Rattle.stage_laws.proofs.laws.ids_stand_in_order.Goals as goal

pub returns : goal.returns
returns c = ids-in_order

use Rattle.stage_laws.proofs.OneByOne.{commanded_in_turn}
use Rattle.stage_laws.proofs.laws.commands_go_one_by_one.Goals as goal

pub returns : goal.returns
returns c = commanded_in_turn

use Rattle.stage_laws.proofs.Turns.{each_has_its_turn}
use Rattle.task_moves.proofs.turns.each_group_has_its_turn.Goals as goal

pub returns : goal.returns
returns c = each_has_its_turn

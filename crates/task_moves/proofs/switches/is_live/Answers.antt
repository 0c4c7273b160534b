use Rattle.std.proofs.Common.{rules}
use Rattle.task_moves.proofs.switches.is_live.Goals as goal

pub returns-in-Unknown : goal.returns-in-Unknown
returns-in-Unknown c = search rules

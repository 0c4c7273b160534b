use Rattle.std.proofs.Common.{rules}
use Rattle.task_moves.proofs.switches.runs_elsewhere.Goals as goal

pub returns-in-Some : goal.returns-in-Some
returns-in-Some c = search rules

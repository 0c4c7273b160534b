use Rattle.std.proofs.Common.{rules}
use Rattle.machine.proofs.machine.Machine.done.Goals as goal

pub returns-in-Tool : goal.returns-in-Tool
returns-in-Tool c = search rules

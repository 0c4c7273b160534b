use Rattle.std.proofs.Common.{rules}
use Rattle.script_read.proofs.names.is_act.Goals as goal

pub returns-in-Tool : goal.returns-in-Tool
returns-in-Tool c = search rules

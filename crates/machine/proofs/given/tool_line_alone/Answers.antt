use Rattle.std.proofs.Common.{rules}
use Rattle.machine.proofs.given.tool_line_alone.Goals as goal

pub returns-clause-done : goal.returns-clause-done
returns-clause-done c = search rules

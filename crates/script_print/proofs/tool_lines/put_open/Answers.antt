use Rattle.std.proofs.Common.{rules}
use Rattle.script_print.proofs.tool_lines.put_open.Goals as goal

pub returns-clause-wrote : goal.returns-clause-wrote
returns-clause-wrote c = search rules

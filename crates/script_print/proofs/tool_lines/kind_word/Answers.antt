use Rattle.std.proofs.Common.{rules}
use Rattle.script_print.proofs.tool_lines.kind_word.Goals as goal

pub returns-in_default : goal.returns-in_default
returns-in_default c = search rules

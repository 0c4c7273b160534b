use Rattle.std.proofs.Common.{rules}
use Rattle.script_print.proofs.tool_lines.leader_word.Goals as goal

pub returns-in-Some : goal.returns-in-Some
returns-in-Some c = search rules

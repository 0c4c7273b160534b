use Rattle.std.proofs.Common.{rules}
use Rattle.given_lines.proofs.given.line_of.Goals as goal

pub returns-in_default-clause-bad : goal.returns-in_default-clause-bad
returns-in_default-clause-bad c = search rules

pub returns-in-Tool-OnTool-clause-ok : goal.returns-in-Tool-OnTool-clause-ok
returns-in-Tool-OnTool-clause-ok c = search rules

use Rattle.std.proofs.Common.{rules}
use Rattle.given_lines.proofs.heads.is_declaration.Goals as goal

pub returns-in-Ring : goal.returns-in-Ring
returns-in-Ring c = search rules

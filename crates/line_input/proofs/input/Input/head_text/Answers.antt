use Rattle.std.proofs.Common.{rules}
use Rattle.line_input.proofs.input.Input.head_text.Goals as goal

pub returns-clause-ok : goal.returns-clause-ok
returns-clause-ok g c = search rules

use Rattle.std.proofs.Common.{rules}
use Rattle.line_input.proofs.input.Input.new.Goals as goal

pub returns : goal.returns
returns c = search rules

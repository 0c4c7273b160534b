use Rattle.std.proofs.Common.{rules}
use Rattle.line_forms.proofs.leaves.decimal_if.Goals as goal

pub returns : goal.returns
returns c = search rules

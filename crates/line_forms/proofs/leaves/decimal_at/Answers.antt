use Rattle.std.proofs.Common.{rules}
use Rattle.line_forms.proofs.leaves.decimal_at.Goals as goal

pub returns : goal.returns
returns c = search rules

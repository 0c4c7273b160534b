use Rattle.std.proofs.Common.{rules}
use Rattle.line_forms.proofs.leaves.flag_if.Goals as goal

pub returns-then-is_next-clause-bit : goal.returns-then-is_next-clause-bit
returns-then-is_next-clause-bit c = search rules

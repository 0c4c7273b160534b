use Rattle.std.proofs.Common.{rules}
use Rattle.attr_checks.proofs.is_period_high.Goals as goal

pub returns : goal.returns
returns c = search rules

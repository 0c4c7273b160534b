use Rattle.std.proofs.Common.{rules}
use Rattle.attr_checks.proofs.is_soft_sampler.Goals as goal

pub returns-in_default : goal.returns-in_default
returns-in_default c = search rules

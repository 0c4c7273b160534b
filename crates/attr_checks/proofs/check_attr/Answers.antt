use Rattle.std.proofs.Common.{rules}
use Rattle.attr_checks.proofs.check_attr.Goals as goal

pub returns-then-is_beyond-2-clause-err : goal.returns-then-is_beyond-2-clause-err
returns-then-is_beyond-2-clause-err c = search rules

pub returns-then-is_beyond-clause-err : goal.returns-then-is_beyond-clause-err
returns-then-is_beyond-clause-err c = search rules

pub returns-then-is_soft_sampler-clause-err : goal.returns-then-is_soft_sampler-clause-err
returns-then-is_soft_sampler-clause-err c = search rules

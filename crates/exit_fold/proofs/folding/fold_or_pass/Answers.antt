use Rattle.std.proofs.Common.{rules}
use Rattle.exit_fold.proofs.folding.fold_or_pass.Goals as goal

pub returns-then-instance-clause-world : goal.returns-then-instance-clause-world
returns-then-instance-clause-world c = search rules

pub returns-clause-world : goal.returns-clause-world
returns-clause-world c = search rules

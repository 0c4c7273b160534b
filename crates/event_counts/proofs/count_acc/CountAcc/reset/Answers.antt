use Rattle.std.proofs.Common.{rules}
use Rattle.event_counts.proofs.count_acc.CountAcc.reset.Goals as goal

pub returns-clause-counts : goal.returns-clause-counts
returns-clause-counts c = search rules

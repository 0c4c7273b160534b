use Rattle.std.proofs.Common.{rules}
use Rattle.event_counts.proofs.count_acc.CountAcc.set_period.Goals as goal

pub returns : goal.returns
returns c = search rules

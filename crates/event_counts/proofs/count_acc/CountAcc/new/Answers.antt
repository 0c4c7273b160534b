use Rattle.std.proofs.Common.{rules}
use Rattle.event_counts.proofs.count_acc.CountAcc.new.Goals as goal

pub returns : goal.returns
returns c = search rules

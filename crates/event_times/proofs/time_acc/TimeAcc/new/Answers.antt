use Rattle.std.proofs.Common.{rules}
use Rattle.event_times.proofs.time_acc.TimeAcc.new.Goals as goal

pub returns : goal.returns
returns c = search rules

use Rattle.std.proofs.Common.{rules}
use Rattle.work_account.proofs.happening.counted_by.Goals as goal

pub returns-in-Hard-2 : goal.returns-in-Hard-2
returns-in-Hard-2 c = search rules

pub returns-in-TaskClock : goal.returns-in-TaskClock
returns-in-TaskClock c = search rules

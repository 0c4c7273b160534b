use Rattle.std.proofs.Common.{rules}
use Rattle.event_times.proofs.time_acc.TimeAcc.running.Goals as goal

pub returns-then-self-clause-sum : goal.returns-then-self-clause-sum
returns-then-self-clause-sum c = search rules

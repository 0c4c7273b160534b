use Rattle.std.proofs.Common.{rules}
use Rattle.event_times.proofs.time_acc.TimeAcc.turn.Goals as goal

pub returns-clause-times : goal.returns-clause-times
returns-clause-times c = search rules

use Rattle.std.proofs.Common.{rules}
use Rattle.cpu_sched.proofs.group_brief.with_mask.Goals as goal

pub returns-clause-event : goal.returns-clause-event
returns-clause-event c = search rules

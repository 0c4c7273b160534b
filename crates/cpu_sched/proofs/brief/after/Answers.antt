use Rattle.std.proofs.Common.{rules}
use Rattle.cpu_sched.proofs.brief.after.Goals as goal

pub with_task-requires-clause-task : goal.with_task-requires-clause-task
with_task-requires-clause-task c = search rules

use Rattle.std.proofs.Common.{rules}
use Rattle.machine.proofs.rescheduling.resched_if.Goals as goal

pub returns-else-touched-clause-stage : goal.returns-else-touched-clause-stage
returns-else-touched-clause-stage g c = search rules

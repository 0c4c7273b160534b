use Rattle.std.proofs.Common.{rules}
use Rattle.cpu_sched.proofs.passes.leaders.Goals as goal

pub returns-in-1-clause-leaders : goal.returns-in-1-clause-leaders
returns-in-1-clause-leaders c = search rules

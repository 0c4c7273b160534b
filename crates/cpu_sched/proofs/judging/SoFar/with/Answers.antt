use Rattle.std.proofs.Common.{rules}
use Rattle.cpu_sched.proofs.judging.SoFar.with.Goals as goal

pub returns : goal.returns
returns c = search rules

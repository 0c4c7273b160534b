use Rattle.std.proofs.Common.{arith}
use Rattle.cpu_sched.proofs.passes.leaders_of.Goals as goal

pub list-requires : goal.list-requires
list-requires c = omega (arith, c.requires c.in-Some.task c.in-Some.is)

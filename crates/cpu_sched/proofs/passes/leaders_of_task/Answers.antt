use Rattle.std.proofs.Common.{arith, ◌∙◌, sym}
use Rattle.cpu_sched.proofs.Passing.{task-low}
use Rattle.cpu_sched.proofs.passes.leaders_of_task.Goals as goal

pub leaders_of-requires : goal.leaders_of-requires
leaders_of-requires c = λ t is. omega (arith, task-low c.args.world.now.hardware c.args.world.now c.args.cpu t c.requires (sym c.task_on.ensures ∙ is))

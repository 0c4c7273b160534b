use Rattle.std.proofs.Common.{◌<◌, ◌∙◌, Some, arith, sym}
use Rattle.work_account.proofs.walking.Walk.context.Goals as goal
use Rattle.perf_world.proofs.Turning.{running-below}

pub returns-clause-place : goal.returns-clause-place
returns-clause-place c =
    let low : c.in_ok-task.task.0 < 64 =
    running-below c.args.world.now.hardware c.args.world.now c.args.cpu (Some c.in_ok-task.task) c.pmus.ensures.kept (sym c.in_ok-task.was ∙ c.task_on.ensures) in
    omega (arith, low)

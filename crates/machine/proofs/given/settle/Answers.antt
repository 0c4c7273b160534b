use Rattle.std.proofs.Common.{subst}
use Rattle.stage_spec.specs.History.{ToolStep}
use Rattle.world_spec.specs.Lines.{IsAnswered}
use Rattle.machine.proofs.ToolLines.{line-done, refused-done}
use Rattle.machine.proofs.given.settle.Goals as goal

pub returns-in-Err : goal.returns-in-Err
returns-in-Err g c = λ l w may answered.
    refused-done w c.args.world.now l c.in-Err.reason c.args.tests.now may (subst (IsAnswered (ToolStep l) w c.args.world.now) c.in-Err.is answered)

pub returns-in-Ok : goal.returns-in-Ok
returns-in-Ok g c = λ l w may answered.
    line-done w c.args.world.now c.resched_each.new.world l c.in-Ok.set c.args.tests.now c.resched_each.new.tests (record {
      may = may;
      change = subst (IsAnswered (ToolStep l) w c.args.world.now) c.in-Ok.is answered;
      kept = c.use_invariant.ensures;
      settled = c.resched_each.ensures.stage;
      rescheduled = c.resched_each.ensures.rescheduled;
      rest = c.resched_each.ensures.rest;
      kept_then = c.resched_each.ensures.kept;
    }) c.resched_each.ensures.counted

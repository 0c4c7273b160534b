use Rattle.std.proofs.Common.{sym, ◌∙◌}
use Rattle.world_spec.proofs.Placing.{task-low}
use Rattle.fork_inherit.proofs.checks.check_fork.Goals as goal

pub has_room-requires : goal.has_room-requires
has_room-requires c = task-low c.args.world.now.hardware c.args.world.now c.args.cpu c.in-Some.parent c.use_invariant.ensures (sym c.task_on.ensures ∙ c.in-Some.is)

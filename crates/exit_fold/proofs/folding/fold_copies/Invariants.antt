use Rattle.std.proofs.Common.{◌-◌, length}
use Rattle.perf_base.specs.declared.standing.Context.TheVariants as context
use Rattle.world_spec.specs.Listings.{keys_in}
use Rattle.exit_fold.proofs.Leaders.{AreWalked}
use Rattle.exit_fold.proofs.folding.fold_copies.Given as goal

abbrev pub invariant-loop-leader : goal.invariant-loop-leader
invariant-loop-leader l = AreWalked l.fn.world.hardware l.task l.fn.world l.world l.passed

abbrev pub decreases-loop-leader : goal.decreases-loop-leader
decreases-loop-leader l = length (keys_in l.world (context.Task l.task)) - l.passed

use Rattle.std.proofs.Common.{◌≡◌, drop, find}
use Rattle.stage_spec.specs.Rotation.{takes_turns}
use Rattle.world_spec.specs.StageOf.{group_at}
use Rattle.task_moves.proofs.rotation.first_taker.Given as goal

abbrev pub invariant-loop-leader : goal.invariant-loop-leader
invariant-loop-leader l =
    find (λ k. takes_turns l.world.hardware l.cpu (group_at l.world k)) (drop l.leader-index l.leaders) ≡ find (λ k. takes_turns l.world.hardware l.cpu (group_at l.world k)) l.leaders

use Rattle.std.{proofs.Common.{◌≡◌, drop}, specs.List.{list_any}}
use Rattle.task_moves.specs.Turning.{waits_there}
use Rattle.task_moves.proofs.rotation.some_waits.Given as goal

abbrev pub invariant-loop-leader : goal.invariant-loop-leader
invariant-loop-leader l = list_any (waits_there l.world l.cpu) (drop l.leader-index l.leaders) ≡ list_any (waits_there l.world l.cpu) l.leaders

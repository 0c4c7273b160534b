use Rattle.std.proofs.Common.{◌≡◌, ◌+◌, drop}
use Rattle.fork_inherit.specs.Copies.{copies_of_all}
use Rattle.fork_inherit.proofs.checks.room_beside.Given as goal

abbrev pub invariant-loop-leader : goal.invariant-loop-leader
invariant-loop-leader l = l.left + copies_of_all l.world l.leaders ≡ l.room + copies_of_all l.world (drop l.leader-index l.leaders)

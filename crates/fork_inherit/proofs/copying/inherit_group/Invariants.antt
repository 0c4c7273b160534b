use Rattle.std.proofs.Common.{take}
use Rattle.world_spec.specs.Value.{entry_at}
use Rattle.fork_inherit.proofs.Begun.{IsBegun}
use Rattle.fork_inherit.proofs.copying.inherit_group.Given as goal

abbrev pub invariant-loop-member : goal.invariant-loop-member
invariant-loop-member l = IsBegun l.child l.fn.world l.world l.leader l.first (take l.member (entry_at l.fn.world l.leader).members)

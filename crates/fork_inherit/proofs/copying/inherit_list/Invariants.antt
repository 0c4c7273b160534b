use Rattle.std.proofs.Common.{take}
use Rattle.fork_inherit.specs.Copies.{AreCopied, inherited_keys, leaders_from}
use Rattle.fork_inherit.proofs.copying.inherit_list.Given as goal

abbrev pub invariant-loop-place : goal.invariant-loop-place
invariant-loop-place l = AreCopied l.child l.fn.world l.world (inherited_keys l.fn.world (take l.place (leaders_from l.fn.world l.parent l.pinned)))

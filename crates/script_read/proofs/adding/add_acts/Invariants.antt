use Rattle.std.proofs.Common.{All, length}
use Rattle.script_spec.specs.Acts.{IsActInRange}
use Rattle.script_read.proofs.Acting.{IsAdding}
use Rattle.script_read.proofs.adding.add_acts.Given as goal

abbrev pub invariant-loop-act : goal.invariant-loop-act
invariant-loop-act l = IsAdding l.initial.script l.script l.fn.acts l.rest × All IsActInRange l.rest

abbrev pub decreases-loop-act : goal.decreases-loop-act
decreases-loop-act l = length l.rest

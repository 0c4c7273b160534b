use Rattle.std.proofs.Common.{length}
use Rattle.script_read.proofs.Counting.{IsCounting}
use Rattle.script_read.proofs.lines.occurrences.Given as goal

abbrev pub invariant-loop-hit : goal.invariant-loop-hit
invariant-loop-hit l = IsCounting l.script.kinds l.fn.hits l.are_kinds l.times l.named l.rest

abbrev pub decreases-loop-hit : goal.decreases-loop-hit
decreases-loop-hit l = length l.rest

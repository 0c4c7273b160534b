use Rattle.std.proofs.Common.{length}
use Rattle.script_read.specs.Reading.{IsReading}
use Rattle.script_read.proofs.reading.read.Given as goal

abbrev pub invariant-loop-line : goal.invariant-loop-line
invariant-loop-line l = IsReading l.bytes l.progress l.lines l.rest

abbrev pub decreases-loop-line : goal.decreases-loop-line
decreases-loop-line l = length l.rest

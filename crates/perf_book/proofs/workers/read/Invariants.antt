use Rattle.perf_book.specs.Running.{HasRead}
use Rattle.perf_book.proofs.workers.read.Given as goal

abbrev pub invariant-loop-attempt : goal.invariant-loop-attempt
invariant-loop-attempt g l = HasRead (record l.line { tries = l.attempt }) l.fn.reader l.reader

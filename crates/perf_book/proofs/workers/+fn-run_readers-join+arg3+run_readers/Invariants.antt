use Rattle.std.proofs.Common.{length}
use Rattle.perf_book.proofs.workers.+fn-run_readers-join+arg3+run_readers.Given as goal

abbrev pub decreases-join+arg3 : goal.decreases-join+arg3
decreases-join+arg3 g l = length l.rest.now

abbrev pub decreases-run_readers : goal.decreases-run_readers
decreases-run_readers g l = length l.lines.now

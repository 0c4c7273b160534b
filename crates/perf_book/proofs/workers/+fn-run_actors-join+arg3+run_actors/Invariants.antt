use Rattle.std.proofs.Common.{length}
use Rattle.perf_book.proofs.workers.+fn-run_actors-join+arg3+run_actors.Given as goal

abbrev pub decreases-join+arg3 : goal.decreases-join+arg3
decreases-join+arg3 g l = length l.workers.items

abbrev pub decreases-run_actors : goal.decreases-run_actors
decreases-run_actors g l = length l.workers.items

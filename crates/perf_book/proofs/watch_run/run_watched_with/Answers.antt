use Rattle.std.proofs.Common.{rules}
use Rattle.perf_book.proofs.watch_run.run_watched_with.Goals as goal

pub returns-clause-published : goal.returns-clause-published
returns-clause-published c = search rules

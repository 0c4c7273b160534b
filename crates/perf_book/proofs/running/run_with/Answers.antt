use Rattle.std.proofs.Common.{rules}
use Rattle.perf_book.proofs.running.run_with.Goals as goal

pub returns-clause-script : goal.returns-clause-script
returns-clause-script c = search rules

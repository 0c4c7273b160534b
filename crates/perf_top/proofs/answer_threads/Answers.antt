use Rattle.std.proofs.Common.{rules}
use Rattle.perf_top.proofs.answer_threads.Goals as goal

pub returns-in-Run-clause-answer : goal.returns-in-Run-clause-answer
returns-in-Run-clause-answer c = search rules

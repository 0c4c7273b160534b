use Rattle.std.proofs.Common.{rules}
use Rattle.perf_top.proofs.answer_alone.Goals as goal

pub returns-in-Ok-clause-answer : goal.returns-in-Ok-clause-answer
returns-in-Ok-clause-answer c = search rules

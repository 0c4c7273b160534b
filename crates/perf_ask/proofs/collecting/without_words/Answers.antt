use Rattle.std.proofs.Common.{rules}
use Rattle.perf_ask.proofs.collecting.without_words.Goals as goal

pub returns-in-OutOfMemory-clause-memory : goal.returns-in-OutOfMemory-clause-memory
returns-in-OutOfMemory-clause-memory c = search rules

pub returns-in_default-clause-usage : goal.returns-in_default-clause-usage
returns-in_default-clause-usage c = search rules

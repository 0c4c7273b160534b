use Rattle.std.proofs.Common.{rules}
use Rattle.perf_book.proofs.doing.prepare_next.Goals as goal

pub returns-in-Processor : goal.returns-in-Processor
returns-in-Processor c = search rules

pub returns-in-Tool : goal.returns-in-Tool
returns-in-Tool c = search rules

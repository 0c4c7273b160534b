use Rattle.std.proofs.Common.{rules}
use Rattle.perf_ask.proofs.asked.asked_by_one.Goals as goal

pub returns-in-stat : goal.returns-in-stat
returns-in-stat c = search rules

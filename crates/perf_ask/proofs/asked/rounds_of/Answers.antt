use Rattle.std.proofs.Common.{rules}
use Rattle.perf_ask.proofs.asked.rounds_of.Goals as goal

pub returns : goal.returns
returns c = search rules

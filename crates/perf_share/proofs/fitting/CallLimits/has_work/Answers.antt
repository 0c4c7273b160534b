use Rattle.std.proofs.Common.{rules}
use Rattle.perf_share.proofs.fitting.CallLimits.has_work.Goals as goal

pub returns-then-are_amounts : goal.returns-then-are_amounts
returns-then-are_amounts c = search rules

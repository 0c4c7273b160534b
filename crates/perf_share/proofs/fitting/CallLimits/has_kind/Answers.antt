use Rattle.std.proofs.Common.{rules}
use Rattle.perf_share.proofs.fitting.CallLimits.has_kind.Goals as goal

pub returns-in-Hard : goal.returns-in-Hard
returns-in-Hard c = search rules

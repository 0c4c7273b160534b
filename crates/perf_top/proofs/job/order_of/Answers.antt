use Rattle.std.proofs.Common.{rules}
use Rattle.perf_top.proofs.job.order_of.Goals as goal

pub invariant_of-result : goal.invariant_of-result
invariant_of-result c = search rules

use Rattle.perf_base.proofs.Weights.{least_read}
use Rattle.perf_base.proofs.weight.least_in.Goals as goal

pub loop-line-preserved : goal.loop-line-preserved
loop-line-preserved c = least_read _ _ _ _ _ _ c.loop-line-test.true c.loop-line.invariant c.period_of.ensures c.lesser-least.ensures

use Rattle.std.proofs.{Common.{arith}, lemmas.Grind.{common_steps}}
use Rattle.perf_base.proofs.weight.shares.Goals as goal

pub returns-clause-sum : goal.returns-clause-sum
returns-clause-sum c = grind (arith, common_steps)

pub loop-hits-preserved : goal.loop-hits-preserved
loop-hits-preserved c = grind (arith, common_steps)

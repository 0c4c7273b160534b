use Rattle.std.proofs.Common.{rules}
use Rattle.std.proofs.{Common.{arith}, lemmas.Grind.{common_steps}}
use Rattle.pmu_model.proofs.pmus.Pmus.mask_of.Goals as goal

pub returns-in-Hard-clause-mask : goal.returns-in-Hard-clause-mask
returns-in-Hard-clause-mask c = grind (arith, common_steps)

pub returns-in-ContextSwitches : goal.returns-in-ContextSwitches
returns-in-ContextSwitches c = search rules

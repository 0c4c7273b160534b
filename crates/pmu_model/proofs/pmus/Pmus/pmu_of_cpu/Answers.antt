use Rattle.std.proofs.{Common.{arith}, lemmas.Grind.{common_steps}}
use Rattle.pmu_model.proofs.pmus.Pmus.pmu_of_cpu.Goals as goal

pub returns-clause-pmu : goal.returns-clause-pmu
returns-clause-pmu c = grind (arith, common_steps)

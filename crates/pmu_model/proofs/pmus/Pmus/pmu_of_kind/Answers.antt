use Rattle.std.proofs.{Common.{arith}, lemmas.Grind.{common_steps}}
use Rattle.pmu_model.proofs.pmus.Pmus.pmu_of_kind.Goals as goal

pub returns-in-Hard-clause-pmu : goal.returns-in-Hard-clause-pmu
returns-in-Hard-clause-pmu c = grind (arith, common_steps)

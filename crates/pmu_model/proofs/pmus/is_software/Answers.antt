use Rattle.std.proofs.Common.{rules}
use Rattle.pmu_model.proofs.pmus.is_software.Goals as goal

pub returns-in-Hard : goal.returns-in-Hard
returns-in-Hard c = search rules

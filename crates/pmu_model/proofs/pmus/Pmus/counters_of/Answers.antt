use Rattle.std.proofs.Common.{rules}
use Rattle.pmu_model.proofs.pmus.Pmus.counters_of.Goals as goal

pub returns-clause-number : goal.returns-clause-number
returns-clause-number c = search rules

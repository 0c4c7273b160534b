use Rattle.std.proofs.Common.{rules}
use Rattle.perf_base.proofs.attr.Kind.software_name.Goals as goal

pub returns-in-TaskClock-clause-name : goal.returns-in-TaskClock-clause-name
returns-in-TaskClock-clause-name c = search rules

use Rattle.std.proofs.Common.{rules}
use Rattle.stat_table.proofs.table.push_estimate.Goals as goal

pub returns-in-Some-clause-added : goal.returns-in-Some-clause-added
returns-in-Some-clause-added c = search rules

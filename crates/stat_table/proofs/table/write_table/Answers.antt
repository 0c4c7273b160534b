use Rattle.std.proofs.Common.{rules}
use Rattle.stat_table.proofs.table.write_table.Goals as goal

pub returns-clause-wrote : goal.returns-clause-wrote
returns-clause-wrote c = search rules

use Rattle.std.proofs.Common.{rules}
use Rattle.stat_rows.proofs.rows.name_of.Goals as goal

pub returns-in_default : goal.returns-in_default
returns-in_default c = search rules

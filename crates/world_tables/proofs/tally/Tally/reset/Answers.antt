use Rattle.std.proofs.Common.{rules}
use Rattle.world_tables.proofs.tally.Tally.reset.Goals as goal

pub returns-clause-counts : goal.returns-clause-counts
returns-clause-counts g c = search rules

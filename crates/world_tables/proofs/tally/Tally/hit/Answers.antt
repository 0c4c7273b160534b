use Rattle.std.proofs.Common.{rules}
use Rattle.world_tables.proofs.tally.Tally.hit.Goals as goal

pub returns-clause-overflows : goal.returns-clause-overflows
returns-clause-overflows g c = search rules

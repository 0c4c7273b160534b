use Rattle.std.proofs.Common.{rules}
use Rattle.world_tables.proofs.tally.Tally.turn.Goals as goal

pub returns-after-way-clause-tally : goal.returns-after-way-clause-tally
returns-after-way-clause-tally g c = search rules

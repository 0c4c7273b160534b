use Rattle.std.proofs.Common.{rules}
use Rattle.world_tables.proofs.families.SlotRow.fold.Goals as goal

pub returns : goal.returns
returns c = search rules

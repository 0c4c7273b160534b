use Rattle.std.proofs.Common.{rules}
use Rattle.world_tables.proofs.contexts.ContextGroups.move_last.Goals as goal

pub returns-else-pinned : goal.returns-else-pinned
returns-else-pinned c = search rules

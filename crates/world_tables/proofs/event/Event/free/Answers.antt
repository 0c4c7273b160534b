use Rattle.std.proofs.Common.{rules}
use Rattle.world_tables.proofs.event.Event.free.Goals as goal

pub returns : goal.returns
returns c = search rules

use Rattle.std.proofs.Common.{rules}
use Rattle.event_commands.proofs.changing.change.Goals as goal

pub returns-in-Switch : goal.returns-in-Switch
returns-in-Switch c = search rules

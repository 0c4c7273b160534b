use Rattle.std.proofs.Common.{◌≡◌, take}
use Rattle.event_commands.specs.Changing.{changed, keys_named}
use Rattle.event_commands.proofs.changing.change_families.Given as goal

abbrev pub invariant-loop-slot : goal.invariant-loop-slot
invariant-loop-slot l = l.world ≡ changed l.command (keys_named l.fn.world (take l.slot-index l.slots)) l.fn.world

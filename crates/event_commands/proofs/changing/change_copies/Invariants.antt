use Rattle.std.proofs.Common.{◌≡◌, take}
use Rattle.world_spec.specs.Value.{family_of}
use Rattle.event_commands.specs.Changing.{changed}
use Rattle.event_commands.proofs.changing.change_copies.Given as goal

abbrev pub invariant-loop-place : goal.invariant-loop-place
invariant-loop-place l = l.world ≡ changed l.command (take l.place (family_of l.fn.world l.event).copies) l.fn.world

use Rattle.std.proofs.Common.{◌≡◌, map, take}
use Rattle.world_spec.specs.Value.{instance_at}
use Rattle.event_commands.proofs.slots.slots_of.Given as goal

abbrev pub invariant-loop-member : goal.invariant-loop-member
invariant-loop-member l = l.slots ≡ map (λ k. (instance_at l.world k).event) (take l.member-index l.members)

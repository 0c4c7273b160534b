use Rattle.std.proofs.Common.{◌≡◌, map, take}
use Rattle.world_spec.specs.Value.{instance_at}
use Rattle.event_open.specs.Demanded.{demanded}
use Rattle.event_open.proofs.demands.demands_of.Given as goal

abbrev pub invariant-loop-member : goal.invariant-loop-member
invariant-loop-member l = l.demands ≡ demanded l.world.hardware (map (instance_at l.world) (take l.member-index l.members))

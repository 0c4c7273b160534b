use Rattle.std.proofs.{Common.{arith, ap, length, map, take}, lemmas.List.{length-map, length-take}}
use Rattle.world_spec.specs.Value.{instance_at}
use Rattle.event_open.proofs.Demanding.{length-demanded}
use Rattle.event_open.proofs.demands.demands_of.Goals as goal

pub demand-requires-clause-room : goal.demand-requires-clause-room
demand-requires-clause-room c = omega (
  arith,
  ap length c.loop-member.invariant,
  length-demanded c.args.world.now.hardware (map (instance_at c.args.world.now) (take c.loop-member.member-index c.args.members.now)),
  length-map (take c.loop-member.member-index c.args.members.now) (instance_at c.args.world.now),
  length-take c.loop-member.member-index c.args.members.now,
  c.requires.few,
)

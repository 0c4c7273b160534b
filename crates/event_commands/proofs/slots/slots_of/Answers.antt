use Rattle.std.proofs.{Common.{arith, ap, length, take}, lemmas.List.{length-map, length-take}}
use Rattle.world_spec.specs.Value.{instance_at}
use Rattle.event_commands.proofs.slots.slots_of.Goals as goal

pub push-requires-clause-room : goal.push-requires-clause-room
push-requires-clause-room c = omega (
  arith,
  c.loop-member-test.true,
  ap length c.loop-member.invariant,
  length-map (take c.loop-member.member-index c.args.members.now) (λ k. (instance_at c.args.world.now k).event),
  length-take c.loop-member.member-index c.args.members.now,
  c.requires.few,
)

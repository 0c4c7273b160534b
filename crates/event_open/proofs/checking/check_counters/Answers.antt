use Rattle.std.proofs.{Common.{arith, ap, length, map}, lemmas.List.{length-map}}
use Rattle.world_spec.specs.Value.{instance_at}
use Rattle.event_open.proofs.Demanding.{length-demanded}
use Rattle.event_open.proofs.checking.check_counters.Goals as goal

pub demand-requires-clause-room : goal.demand-requires-clause-room
demand-requires-clause-room c = omega (
  arith,
  ap length c.demands_of-demands.ensures,
  length-demanded c.args.world.now.hardware (map (instance_at c.args.world.now) c.args.members.now),
  length-map c.args.members.now (instance_at c.args.world.now),
  c.requires.room,
)

use Rattle.world_spec.specs.StageOf.{stage_of}
use Rattle.event_open.proofs.Reached.{more-those}
use Rattle.event_open.proofs.opening.cpus_with.Goals as goal

pub loop-cpu-preserved : goal.loop-cpu-preserved
loop-cpu-preserved c =
    more-those (stage_of c.args.world.now) c.args.context c.loop-cpu.cpu c.loop-cpu.set c.insert_if.new.set c.has_context.result c.loop-cpu.invariant c.has_context.ensures c.insert_if.ensures

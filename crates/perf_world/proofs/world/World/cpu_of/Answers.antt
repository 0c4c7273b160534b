use Rattle.world_spec.specs.StageOf.{stage_of}
use Rattle.perf_world.proofs.Running.{cpu-is}
use Rattle.perf_world.proofs.world.World.cpu_of.Goals as goal

pub returns-clause-cpu : goal.returns-clause-cpu
returns-clause-cpu c =
    cpu-is (stage_of c.args.self.now) c.args.task c.processor_with.result c.processor_with.ensures.kept.running c.processor_with.ensures.there c.processor_with.ensures.nowhere

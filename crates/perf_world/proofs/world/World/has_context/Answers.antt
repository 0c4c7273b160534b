use Rattle.std.proofs.Common.{rules}
use Rattle.perf_world.proofs.world.World.has_context.Goals as goal

pub returns-in-Processor : goal.returns-in-Processor
returns-in-Processor c = search rules

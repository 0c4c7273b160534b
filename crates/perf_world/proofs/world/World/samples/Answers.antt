use Rattle.std.proofs.Common.{rules}
use Rattle.perf_world.proofs.world.World.samples.Goals as goal

pub returns-clause-samples : goal.returns-clause-samples
returns-clause-samples c = search rules

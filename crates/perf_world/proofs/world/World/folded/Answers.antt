use Rattle.std.proofs.Common.{rules}
use Rattle.perf_world.proofs.world.World.folded.Goals as goal

pub returns : goal.returns
returns c = search rules

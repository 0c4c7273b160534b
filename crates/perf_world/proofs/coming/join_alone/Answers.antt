use Rattle.std.proofs.Common.{rules}
use Rattle.perf_world.proofs.coming.join_alone.Goals as goal

pub returns-clause-contexts : goal.returns-clause-contexts
returns-clause-contexts c = search rules

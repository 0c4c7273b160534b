use Rattle.std.proofs.Common.{rules}
use Rattle.perf_world.proofs.settling.way_of.Goals as goal

pub returns-in-Some-clause-turned : goal.returns-in-Some-clause-turned
returns-in-Some-clause-turned c = search rules

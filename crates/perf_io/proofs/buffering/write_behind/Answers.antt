use Rattle.std.proofs.Common.{rules}
use Rattle.perf_io.proofs.buffering.write_behind.Goals as goal

pub returns-clause-wrote : goal.returns-clause-wrote
returns-clause-wrote g c = search rules

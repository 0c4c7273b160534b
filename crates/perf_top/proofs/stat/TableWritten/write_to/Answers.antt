use Rattle.std.proofs.Common.{rules}
use Rattle.perf_top.proofs.stat.TableWritten.write_to.Goals as goal

pub returns-clause-wrote : goal.returns-clause-wrote
returns-clause-wrote c = search rules

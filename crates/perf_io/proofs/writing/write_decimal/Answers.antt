use Rattle.std.proofs.Common.{rules}
use Rattle.perf_io.proofs.writing.write_decimal.Goals as goal

pub returns-clause-wrote : goal.returns-clause-wrote
returns-clause-wrote g c = search rules

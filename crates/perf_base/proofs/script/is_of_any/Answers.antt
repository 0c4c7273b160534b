use Rattle.std.proofs.Common.{rules}
use Rattle.perf_base.proofs.script.is_of_any.Goals as goal

pub returns : goal.returns
returns c = search rules

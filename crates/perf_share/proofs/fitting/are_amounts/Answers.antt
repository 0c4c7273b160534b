use Rattle.std.proofs.Common.{rules}
use Rattle.perf_share.proofs.fitting.are_amounts.Goals as goal

pub returns : goal.returns
returns c = search rules

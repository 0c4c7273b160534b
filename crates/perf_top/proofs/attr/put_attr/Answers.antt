use Rattle.std.proofs.Common.{rules}
use Rattle.perf_top.proofs.attr.put_attr.Goals as goal

pub returns : goal.returns
returns c = search rules

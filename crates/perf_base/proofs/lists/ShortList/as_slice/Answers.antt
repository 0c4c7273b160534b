use Rattle.std.proofs.Common.{rules}
use Rattle.perf_base.proofs.lists.ShortList.as_slice.Goals as goal

pub returns : goal.returns
returns c = search rules

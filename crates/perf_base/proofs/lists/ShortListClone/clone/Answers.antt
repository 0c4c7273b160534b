use Rattle.std.proofs.Common.{rules}
use Rattle.perf_base.proofs.lists.ShortListClone.clone.Goals as goal

pub returns : goal.returns
returns g c = search rules

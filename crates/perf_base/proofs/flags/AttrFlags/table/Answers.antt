use Rattle.std.proofs.Common.{rules}
use Rattle.perf_base.proofs.flags.AttrFlags.table.Goals as goal

pub returns : goal.returns
returns c = search rules

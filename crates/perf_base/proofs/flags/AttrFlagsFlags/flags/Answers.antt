use Rattle.std.proofs.Common.{rules}
use Rattle.perf_base.proofs.flags.AttrFlagsFlags.flags.Goals as goal

pub returns : goal.returns
returns c = search rules

use Rattle.std.proofs.Common.{rules}
use Rattle.stat_table.proofs.estimates.share.Goals as goal

pub returns : goal.returns
returns c = search rules

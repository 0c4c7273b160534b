use Rattle.std.proofs.Common.{rules}
use Rattle.report.proofs.summary.totals_of.Goals as goal

pub returns : goal.returns
returns c = search rules

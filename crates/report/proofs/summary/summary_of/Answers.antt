use Rattle.std.proofs.Common.{rules}
use Rattle.std.proofs.Common.{◌∙◌}
use Rattle.report.proofs.SummedUp.{ran_accounts}
use Rattle.report.proofs.summary.summary_of.Goals as goal

pub returns-clause-totals : goal.returns-clause-totals
returns-clause-totals c rings h = c.totals_of.ensures ∙ ran_accounts c.args.ended.now rings h

pub returns-clause-rounds : goal.returns-clause-rounds
returns-clause-rounds c = search rules

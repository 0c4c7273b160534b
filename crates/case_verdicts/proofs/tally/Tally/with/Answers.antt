use Rattle.std.proofs.Common.{rules}
use Rattle.case_verdicts.proofs.tally.Tally.with.Goals as goal

pub returns-clause-failed : goal.returns-clause-failed
returns-clause-failed c = search rules

use Rattle.std.proofs.Common.{rules}
use Rattle.case_verdicts.proofs.again.judge_again.Goals as goal

pub returns-in-NoScript-false : goal.returns-in-NoScript-false
returns-in-NoScript-false c = search rules

use Rattle.std.proofs.Common.{rules}
use Rattle.case_verdicts.proofs.verdict.is_expected.Goals as goal

pub returns-in-Refused : goal.returns-in-Refused
returns-in-Refused c = search rules

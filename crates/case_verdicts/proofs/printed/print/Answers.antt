use Rattle.std.proofs.Common.{rules}
use Rattle.case_verdicts.proofs.printed.print.Goals as goal

pub returns-in-Ok : goal.returns-in-Ok
returns-in-Ok c = search rules

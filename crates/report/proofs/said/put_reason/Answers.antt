use Rattle.std.proofs.Common.{rules}
use Rattle.report.proofs.said.put_reason.Goals as goal

pub returns-in-NoAssignment-clause-wrote : goal.returns-in-NoAssignment-clause-wrote
returns-in-NoAssignment-clause-wrote c = search rules

use Rattle.std.proofs.Common.{rules}
use Rattle.report.proofs.answers.put_number.Goals as goal

pub returns-clause-wrote : goal.returns-clause-wrote
returns-clause-wrote c = search rules

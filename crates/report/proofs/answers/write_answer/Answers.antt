use Rattle.std.proofs.Common.{rules}
use Rattle.report.proofs.answers.write_answer.Goals as goal

pub returns-in-Ok-clause-wrote : goal.returns-in-Ok-clause-wrote
returns-in-Ok-clause-wrote c = search rules

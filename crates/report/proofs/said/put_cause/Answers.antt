use Rattle.std.proofs.Common.{rules}
use Rattle.report.proofs.said.put_cause.Goals as goal

pub returns-in-Rule-Earlier-clause-wrote : goal.returns-in-Rule-Earlier-clause-wrote
returns-in-Rule-Earlier-clause-wrote g c = search rules

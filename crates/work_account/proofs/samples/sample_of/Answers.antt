use Rattle.std.proofs.Common.{rules}
use Rattle.work_account.proofs.samples.sample_of.Goals as goal

pub returns-clause-says : goal.returns-clause-says
returns-clause-says c = search rules

use Rattle.std.proofs.Common.{rules}
use Rattle.work_account.proofs.samples.fields_of.Goals as goal

pub returns : goal.returns
returns c = search rules

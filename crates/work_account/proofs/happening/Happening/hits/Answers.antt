use Rattle.std.proofs.Common.{rules}
use Rattle.work_account.proofs.happening.Happening.hits.Goals as goal

pub returns-in-Work : goal.returns-in-Work
returns-in-Work c = search rules

use Rattle.std.proofs.Common.{rules}
use Rattle.work_account.proofs.sending.count_lost.Goals as goal

pub returns-in-Lost : goal.returns-in-Lost
returns-in-Lost c = search rules

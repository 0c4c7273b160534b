use Rattle.std.proofs.Common.{rules}
use Rattle.user_page.proofs.watcher.Watcher.look.Goals as goal

pub returns-clause-end : goal.returns-clause-end
returns-clause-end c = search rules

pub returns-clause-last : goal.returns-clause-last
returns-clause-last c = search rules

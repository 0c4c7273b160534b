use Rattle.std.proofs.Common.{rules}
use Rattle.user_page.proofs.steps.watcher_hears.Goals as goal

pub returns-clause-view : goal.returns-clause-view
returns-clause-view c = search rules

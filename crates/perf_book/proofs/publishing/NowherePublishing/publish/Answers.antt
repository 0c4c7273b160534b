use Rattle.perf_book.proofs.Watching.{none-published}
use Rattle.perf_book.proofs.publishing.NowherePublishing.publish.Goals as goal

pub returns-clause-published : goal.returns-clause-published
returns-clause-published c = none-published c.args._book.now.script c.args._book.now.order c.args._publisher.now c.requires.page c.requires.behind

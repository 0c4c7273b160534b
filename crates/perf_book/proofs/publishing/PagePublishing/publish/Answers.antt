use Rattle.std.proofs.Common.{rules}
use Rattle.perf_book.proofs.publishing.PagePublishing.publish.Goals as goal

pub returns-in-Some-clause-published : goal.returns-in-Some-clause-published
returns-in-Some-clause-published c = search rules

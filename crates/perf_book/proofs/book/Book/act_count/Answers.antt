use Rattle.std.proofs.Common.{rules}
use Rattle.perf_book.proofs.book.Book.act_count.Goals as goal

pub returns : goal.returns
returns c = search rules

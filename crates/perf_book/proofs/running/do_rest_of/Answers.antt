use Rattle.std.proofs.Common.{rules}
use Rattle.perf_book.proofs.running.do_rest_of.Goals as goal

pub advance-requires-clause-page : goal.advance-requires-clause-page
advance-requires-clause-page c = search rules

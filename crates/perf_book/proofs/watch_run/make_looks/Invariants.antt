use Rattle.perf_book.specs.Watching.{HasLooked}
use Rattle.perf_book.proofs.watch_run.make_looks.Given as goal

abbrev pub invariant-loop-number : goal.invariant-loop-number
invariant-loop-number g l = HasLooked l.number l.fn.watcher l.watcher l.look

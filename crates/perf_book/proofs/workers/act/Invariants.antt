use Rattle.perf_book.specs.Sheets.{IsReady}
use Rattle.perf_book.proofs.workers.act.Given as goal

abbrev pub invariant-loop-line : goal.invariant-loop-line
invariant-loop-line g l = IsReady l.sheet

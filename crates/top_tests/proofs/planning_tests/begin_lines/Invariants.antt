use Rattle.work_account.specs.Ends.{AreTogether}
use Rattle.perf_book.specs.Sheets.{IsReady}
use Rattle.top_tests.proofs.planning_tests.begin_lines.Given as goal

abbrev pub invariant-loop : goal.invariant-loop
invariant-loop g l = record {
  together : AreTogether l.rings l.book.machine.outs;
  sheet : IsReady l.sheet;
}

use Rattle.std.proofs.Common.{◌≡◌}
use Rattle.work_account.specs.Ends.{AreTogether}
use Rattle.machine.specs.Prepared.{prepared}
use Rattle.top_tests.proofs.planning_tests.two_by_plan.Given as goal

abbrev pub invariant-loop : goal.invariant-loop
invariant-loop g l = record {
  together : AreTogether l.rings l.book.machine.outs;
  filled : l.sheet ≡ prepared l.book.script l.book.machine l.cpu;
  free : l.tests ≡ l.initial.tests;
}

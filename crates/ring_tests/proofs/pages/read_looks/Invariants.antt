use Rattle.std.proofs.Common.{◌≡◌}
use Rattle.ring_tests.proofs.pages.read_looks.Given as goal

abbrev pub invariant-loop : goal.invariant-loop
invariant-loop g l = record {
  page : l.watcher.page ≡ l.page;
}

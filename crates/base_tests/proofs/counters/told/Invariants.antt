use Rattle.std.{specs.Prelude.{All}, proofs.Common.{◌≡◌, ◌<◌}}
use Rattle.base_tests.proofs.counters.told.Given as goal

abbrev pub invariant-loop-slot : goal.invariant-loop-slot
invariant-loop-slot g l = record {
  counters : l.seats.counters ≡ l.counters;
  later : All (λ event. event.0.0 < l.slot) l.seats.events;
}

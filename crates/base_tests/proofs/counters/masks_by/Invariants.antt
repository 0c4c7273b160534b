use Rattle.std.{specs.Prelude.{All}, proofs.Common.{◌≡◌, length}}
use Rattle.perf_base.specs.Masks.{IsMask}
use Rattle.base_tests.proofs.counters.masks_by.Given as goal

abbrev pub invariant-loop : goal.invariant-loop
invariant-loop l = record { masks : All (IsMask l.counters) l.masks.items; count : length l.masks.items ≡ l.counter }

use Rattle.std.proofs.Common.{◌≡◌}
use Rattle.ring_tests.proofs.sends.take_all.Given as goal

abbrev pub invariant-loop : goal.invariant-loop
invariant-loop l = l.reader.consumer.ring ≡ l.table

use Rattle.std.proofs.Common.{◌≡◌}
use Rattle.ring_tests.proofs.sends.send_all.Given as goal

abbrev pub invariant-loop-ip : goal.invariant-loop-ip
invariant-loop-ip g l = l.out.producer.ring ≡ l.table

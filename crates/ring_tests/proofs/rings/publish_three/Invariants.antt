use Rattle.std.proofs.Common.{◌≡◌, ◌*◌, [], length}
use Rattle.ring_spec.specs.Whole.{IsWhole}
use Rattle.ring_tests.proofs.rings.publish_three.Given as goal

abbrev pub invariant-loop-second : goal.invariant-loop-second
invariant-loop-second l = record {
  ring : l.producer.ring ≡ l.table;
  published : l.producer.published ≡ [];
  tail : l.producer.last_tail ≡ 0;
  count : length l.producer.put ≡ 2 * l.second;
  whole : IsWhole l.producer.put;
}

use Rattle.std.proofs.Common.{◌≡◌, ◌*◌, ◌≤◌, [], length}
use Rattle.ring_words.specs.Ends.{IsSoundProducer}
use Rattle.ring_tests.proofs.rings.write_blocks.Given as goal

abbrev pub invariant-loop : goal.invariant-loop
invariant-loop l = record {
  ring : l.producer.ring ≡ l.table;
  put : l.producer.put ≡ [];
  head : l.head ≡ 8 * length l.producer.published;
  tail : l.tail ≡ l.producer.last_tail;
  below : l.head ≤ 16 * l.counter;
  sound : IsSoundProducer l.producer;
}

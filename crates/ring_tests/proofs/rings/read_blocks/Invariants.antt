use Rattle.std.proofs.Common.{◌≡◌, ◌+◌, ◌*◌, ◌≤◌, length}
use Rattle.ring_spec.specs.Whole.{IsWhole}
use Rattle.ring_tests.proofs.rings.read_blocks.Given as goal

abbrev pub invariant-loop : goal.invariant-loop
invariant-loop g l = record {
  ring : l.consumer.ring ≡ l.table;
  count : length l.consumer.taken ≡ 2 * l.count;
  whole : IsWhole l.consumer.taken;
  head : l.head ≤ l.consumer.last_head;
  below : l.count ≤ l.fn.count + l.counter;
}

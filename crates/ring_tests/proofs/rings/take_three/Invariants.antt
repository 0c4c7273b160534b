use Rattle.std.proofs.Common.{◌≡◌, ◌*◌, ◌≤◌, length}
use Rattle.ring_spec.specs.Whole.{IsWhole}
use Rattle.ring_tests.proofs.rings.take_three.Given as goal

abbrev pub invariant-loop-i : goal.invariant-loop-i
invariant-loop-i g l = record {
  ring : l.consumer.ring ≡ l.table;
  head : 48 ≤ l.consumer.last_head;
  count : length l.consumer.taken ≡ 2 * l.i;
  whole : IsWhole l.consumer.taken;
}

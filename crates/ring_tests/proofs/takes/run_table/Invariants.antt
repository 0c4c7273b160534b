use Rattle.std.proofs.Common.{◌≡◌, length}
use Rattle.sample_ring.specs.Taking.{IsUpTo}
use Rattle.ring_tests.proofs.takes.run_table.Given as goal

abbrev pub invariant-loop-line : goal.invariant-loop-line
invariant-loop-line g l = record {
  out : l.out.producer.ring ≡ l.table;
  reader : l.reader.consumer.ring ≡ l.table;
  before : IsUpTo l.reader l.out.producer.last_tail;
  room : l.reader.room ≡ length l.words;
}

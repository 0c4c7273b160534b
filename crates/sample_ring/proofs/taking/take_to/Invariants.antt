use Rattle.std.proofs.Common.{◌≡◌, ◌-◌, ◌*◌, ◌≤◌, length}
use mathlib.Core.List.{IsPrefix}
use Rattle.sample_ring.specs.{InEnds.{IsSoundIn}, OutEnds.{IsSoundOut}, Taking.{IsUpTo, with_tail}}
use Rattle.sample_ring.proofs.taking.take_to.Given as goal

abbrev pub invariant-loop-out : goal.invariant-loop-out
invariant-loop-out l = record {
  out : l.out ≡ with_tail l.fn.out l.out.producer.last_tail l.out.producer.loads;
  reader : IsUpTo l.reader l.out.producer.last_tail;
  place : l.out.producer.last_tail ≤ l.place;
  words : IsPrefix l.reader.words l.fn.out.producer.published;
  head : 8 * length l.fn.out.producer.published ≤ l.reader.consumer.last_head;
  same : (l.reader.consumer.ring ≡ l.fn.reader.consumer.ring) × (l.reader.room ≡ l.fn.reader.room);
  sound : IsSoundOut l.out × IsSoundIn l.reader;
}

abbrev pub decreases-loop-out : goal.decreases-loop-out
decreases-loop-out l = l.place - l.out.producer.last_tail

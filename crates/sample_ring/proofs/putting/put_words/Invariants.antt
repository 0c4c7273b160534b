use Rattle.std.proofs.Common.{◌≡◌, ◌+◌, ◌++◌, take, length}
use Rattle.ring_words.specs.Ends.{IsSoundProducer}
use Rattle.sample_ring.proofs.putting.put_words.Given as goal

abbrev pub invariant-loop-word : goal.invariant-loop-word
invariant-loop-word l = record {
  end : l.producer ≡ record l.initial.producer { put = l.initial.producer.put ++ take l.word-index l.words };
  long : length l.producer.put ≡ length l.initial.producer.put + l.word-index;
  sound : IsSoundProducer l.producer;
}

use Rattle.std.proofs.Common.{◌≡◌, ◌+◌, length, vec_capacity}
use mathlib.Core.List.{IsPrefix}
use Rattle.ring_words.specs.Ends.{IsSoundConsumer}
use Rattle.sample_ring.proofs.reader.take_words.Given as goal

abbrev pub invariant-loop : goal.invariant-loop
invariant-loop l = record {
  end : l.consumer ≡ record l.initial.consumer { taken = l.words.items };
  words : IsPrefix l.initial.words.items l.words.items;
  long : length l.words.items ≡ length l.initial.words.items + l.counter;
  capacity : vec_capacity l.words ≡ vec_capacity l.initial.words;
  sound : IsSoundConsumer l.consumer;
}

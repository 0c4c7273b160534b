-- inner
-- The readers of a replay, each of which has taken what the last look at its ring saw. This project's own profile.
use Rattle.std.specs.Prelude.{◌≡◌, ℕ, ◌+◌, ◌*◌, ◌<◌, ◌≤◌, All, List, length, map, Option, Some, None, slice_get}
use Rattle.perf_base.specs.{declared.{acts.Act.{Act}, numbers.RingNo.{RingNo}}, Scripts.{Scripted}}
use Rattle.ring_spec.specs.{Account.{Account, head_of}, Records.{words_of}, Rings.{account_in, bytes_of}}
use Rattle.ring_words.specs.Ends.{head_place}
use Rattle.sample_ring.specs.{Taking.{IsUpTo}, InEnds.{InEnd}, OutEnds.{OutEnd}, declared.sent.RingNumbers.{RingNumbers}}
use Rattle.sample_ring.specs.RingLists.{OutList, InList, HasReader, ring_index}
use Rattle.run_end.specs.Ended.{words_in}

-- A reader is of the ring of an end that sends, has taken and released just what stands before the last tail that this
-- end has seen, and has room for a number of words.
pub record Follows (words : ℕ) (o : OutEnd) (i : InEnd) : Type 0 where
  pub ring : i.consumer.ring ≡ o.producer.ring
  pub up_to : IsUpTo i o.producer.last_tail
  pub room : words ≤ i.room

-- So does the reader of each ring, none of which is out.
pub record AreFollowing (words : ℕ) (outs : OutList) (ins : InList) : Type 0 where
  pub numbers : ins.numbers ≡ outs.numbers
  pub each : (place : ℕ) (o : OutEnd) → slice_get outs.outs place ≡ Some o → (i : InEnd) × (slice_get ins.readers place ≡ Some (Some i)) × Follows words o i

-- A reader is of the ring of an end that sends, has released all that it has taken, and has room for a number of words.
-- The end may have seen less.
pub record IsReaderOf (words : ℕ) (o : OutEnd) (i : InEnd) : Type 0 where
  pub ring : i.consumer.ring ≡ o.producer.ring
  pub released : i.consumer.released ≡ length i.words
  pub room : words ≤ i.room

-- So is the reader of each ring, none of which is out.
pub record AreReaders (words : ℕ) (outs : OutList) (ins : InList) : Type 0 where
  pub numbers : ins.numbers ≡ outs.numbers
  pub each : (place : ℕ) (o : OutEnd) → slice_get outs.outs place ≡ Some o → (i : InEnd) × (slice_get ins.readers place ≡ Some (Some i)) × IsReaderOf words o i

-- A reader is of the ring of an end that sends, has released just what stands before the last tail that this end has
-- seen, and has room for a number of words. It may have taken more than it has released.
pub record IsBehind (words : ℕ) (o : OutEnd) (i : InEnd) : Type 0 where
  pub ring : i.consumer.ring ≡ o.producer.ring
  pub released : 8 * i.consumer.released ≡ o.producer.last_tail
  pub room : words ≤ i.room

-- So is the reader of each ring, none of which is out; and the reader of each of the first rings alone.
pub record AreBehind (words : ℕ) (outs : OutList) (ins : InList) : Type 0 where
  pub numbers : ins.numbers ≡ outs.numbers
  pub each : (place : ℕ) (o : OutEnd) → slice_get outs.outs place ≡ Some o → (i : InEnd) × (slice_get ins.readers place ≡ Some (Some i)) × IsBehind words o i

abbrev pub BehindTo : (few words : ℕ) → OutList → InList → Type 0
BehindTo few words outs ins =
    (place : ℕ) (o : OutEnd) → place < few → slice_get outs.outs place ≡ Some o → (i : InEnd) × (slice_get ins.readers place ≡ Some (Some i)) × IsBehind words o i

-- A reader is of the ring of an end that sends, has released just what stands before the last tail that this end has
-- seen, and has room for all words sent. It may have taken more than it has released.
pub record Trails (o : OutEnd) (i : InEnd) : Type 0 where
  pub ring : i.consumer.ring ≡ o.producer.ring
  pub released : 8 * i.consumer.released ≡ o.producer.last_tail
  pub room : length o.producer.published ≤ i.room

-- So does the reader of each ring, none of which is out.
pub record AreTrailing (outs : OutList) (ins : InList) : Type 0 where
  pub numbers : ins.numbers ≡ outs.numbers
  pub each : (place : ℕ) (o : OutEnd) → slice_get outs.outs place ≡ Some o → (i : InEnd) × (slice_get ins.readers place ≡ Some (Some i)) × Trails o i

-- how many records the reader of a ring has taken, and the place behind the words that it has released, in bytes from
-- the start of the stream; 0 where it is not there
abbrev pub records_of_slot : Option (Option InEnd) → ℕ
records_of_slot None = 0
records_of_slot (Some None) = 0
records_of_slot (Some (Some i)) = i.records

abbrev pub records_taken : InList → RingNo → ℕ
records_taken ins ring = records_of_slot (slice_get ins.readers (ring_index ins.numbers ring))

abbrev pub released_of_slot : Option (Option InEnd) → ℕ
released_of_slot None = 0
released_of_slot (Some None) = 0
released_of_slot (Some (Some i)) = 8 * i.consumer.released

abbrev pub released_in : InList → RingNo → ℕ
released_in ins ring = released_of_slot (slice_get ins.readers (ring_index ins.numbers ring))

-- The reader of a ring is there, and is of the same ring as the end that sends.
pub record HasItsReader (outs : OutList) (ins : InList) (ring : RingNo) : Type 0 where
  pub there : HasReader ins ring
  pub same : (o : OutEnd) → slice_get outs.outs (ring_index outs.numbers ring) ≡ Some o → there.0.consumer.ring ≡ o.producer.ring

-- A reader has met the end that sends: it has seen the head, by one load more, and is else what it was.
pub record HasMet (o : OutEnd) (i j : InEnd) : Type 0 where
  pub reader : j ≡ record i { consumer = record i.consumer { last_head = j.consumer.last_head; loads = i.consumer.loads + 1 } }
  pub rises : i.consumer.last_head ≤ j.consumer.last_head
  pub head : 8 * length o.producer.published ≤ j.consumer.last_head

-- The reader of each ring of a script is there, and has taken all records that were written on the ring over some acts.
pub record HasTaken (s : Scripted) (acts : List Act) (ins : InList) (ring : RingNo) : Type 0 where
  pub there : HasReader ins ring
  pub words : words_in ins ring ≡ words_of (account_in s acts (ring, bytes_of s ring)).written

abbrev pub HaveTaken : Scripted → List Act → InList → Type 0
HaveTaken s acts ins = All (λ r. HasTaken s acts ins r.0) s.rings

-- These are the numbers of an account.
pub record IsShown (n : RingNumbers) (a : Account) : Type 0 where
  pub head : n.head ≡ head_of a
  pub tail : n.tail ≡ a.tail
  pub lost : n.lost ≡ length a.lost
  pub pending : n.pending ≡ a.pending

-- These are the numbers of an end that sends.
pub record IsShownBy (n : RingNumbers) (o : OutEnd) : Type 0 where
  pub head : n.head ≡ head_place o.producer
  pub tail : n.tail ≡ o.producer.last_tail
  pub lost : n.lost ≡ o.lost
  pub pending : n.pending ≡ o.pending

-- the end of a ring that sends, if it is there, and how often each has loaded its tail
abbrev pub out_of : OutList → RingNo → Option OutEnd
out_of outs ring = slice_get outs.outs (ring_index outs.numbers ring)

abbrev pub loads_of : OutList → List ℕ
loads_of outs = map (λ o. o.producer.loads) outs.outs

-- inner
-- What contracts see of the end of a ring that takes records. Words are taken into a store, whose room is a number of
-- words. After perf_event_open(2), the ring buffer's reader; the store and its room are this project's own profile.
use Rattle.std.specs.{Prelude.{◌≡◌, ℕ, ◌+◌, ◌*◌, ◌<◌, ◌≤◌, ◌⊎◌, List, [], ◌∷◌, ◌++◌, length, All, Option, Some, None}, List.{concat}}
use mathlib.Core.List.{IsPrefix}
use Rattle.ring_spec.specs.Whole.{size_field, IsBlock}
use Rattle.ring_words.specs.Ends.{Ring, ConsumerEnd, new_consumer, IsSoundConsumer}

-- the end that reads the ring's words, the words of the records that it took, how many records these are, the first
-- word of a record that passes the room, and the room
pub record InEnd : Type 0 where
  pub consumer : ConsumerEnd
  pub words : List ℕ
  pub records : ℕ
  pub kept : Option ℕ
  pub room : ℕ

-- the end of a new ring
abbrev pub new_in : Ring → ℕ → InEnd
new_in ring room = record { consumer = new_consumer ring; words = []; records = 0; kept = None; room = room }

-- the words are those of this number of records
abbrev pub AreRecords : List ℕ → ℕ → Type 0
AreRecords words n = (blocks : List (List ℕ)) × All IsBlock blocks × (concat blocks ≡ words) × (length blocks ≡ n)

abbrev pub kept_words : Option ℕ → List ℕ
kept_words None = []
kept_words (Some first) = first ∷ []

-- a record that begins with this word passes the room
abbrev pub Passes : InEnd → ℕ → Type 0
Passes i first = 8 * i.room < 8 * length i.words + size_field first

-- No further record stands before the last head.
pub record HasNone (i : InEnd) : Type 0 where
  pub kept : i.kept ≡ None
  pub place : 8 * length i.words ≡ i.consumer.last_head

-- The next record passes the room, and its first word is kept.
pub record HasPassing (i : InEnd) : Type 0 where
  pub first : ℕ
  pub kept : i.kept ≡ Some first
  pub passes : Passes i first

-- why no further record is taken
abbrev pub IsDry : InEnd → Type 0
IsDry i = HasNone i ⊎ HasPassing i

-- An end between two calls: the words that it took from the ring are those of its records and the word kept, which
-- is not released, and the store has room for them.
pub record IsSoundIn (i : InEnd) : Type 0 where
  pub consumer : IsSoundConsumer i.consumer
  pub taken : i.consumer.taken ≡ i.words ++ kept_words i.kept
  pub records : AreRecords i.words i.records
  pub within : length i.words ≤ i.room
  pub kept : (first : ℕ) → i.kept ≡ Some first → Passes i first
  pub released : i.consumer.released ≤ length i.words

-- What a call that takes records leaves: the head was loaded once, and more words may stand behind those taken.
pub record Reads (i j : InEnd) : Type 0 where
  pub ring : j.consumer.ring ≡ i.consumer.ring
  pub room : j.room ≡ i.room
  pub loads : j.consumer.loads ≡ i.consumer.loads + 1
  pub rises : i.consumer.last_head ≤ j.consumer.last_head
  pub words : IsPrefix i.words j.words
  pub records : i.records ≤ j.records

-- An end that keeps the first word of a record takes no more.
pub record IsStill (i j : InEnd) : Type 0 where
  pub words : j.words ≡ i.words
  pub kept : j.kept ≡ i.kept
  pub released : j.consumer.released ≡ i.consumer.released

-- inner
-- The views of a ring's seats: how they begin, part, travel and join.
use Rattle.std.specs.Prelude.{◌≡◌, ℕ, ◌+◌, ◌-◌, ◌*◌, ◌<◌, ◌^◌, true, false, List, [], ◌∷◌, ◌++◌, length}
use Rattle.atomic_table.specs.{Seated.{TableId}, Table.{Me}}
use Rattle.perf_base.specs.Scripts.{IsRingSize}
use Rattle.ring_words.specs.{Ends.{cells_of, Ring, ProducerEnd, ConsumerEnd, IsSoundProducer, IsSoundConsumer}, declared.view.View.{View}}

-- the one view of a new ring of this size holds both ends (this project's own profile)
abbrev pub both_ends : ℕ → View
both_ends bytes = record { bytes = bytes; writes = true; published = []; put = []; last_tail = 0; tail_loads = 0; reads = true; taken = []; released = 0; last_head = 0; head_loads = 0; note = []; note_place = 0 }

-- a view that is no end, and has this note (this project's own profile)
abbrev pub noted : List ℕ → ℕ → View
noted words place = record (both_ends 0) { writes = false; reads = false; note = words; note_place = place }

-- the view of a seat that was joined to another (this project's own profile)
abbrev pub spent : View
spent = noted [] 0

-- the producer's part of a view that holds both ends (this project's own profile)
abbrev pub producer_of : View → View
producer_of v = record v { reads = false; taken = []; released = 0; last_head = 0; head_loads = 0 }

-- the consumer's part of such a view (this project's own profile)
abbrev pub consumer_of : View → View
consumer_of v = record v { writes = false; published = []; put = []; last_tail = 0; tail_loads = 0 }

-- a copy of what the producer has published, and of its last tail (this project's own profile)
abbrev pub note_of_producer : View → View
note_of_producer v = noted v.published v.last_tail

-- a copy of what the consumer has taken, and of the tail that it has released (this project's own profile)
abbrev pub note_of_consumer : View → View
note_of_consumer v = noted v.taken (8 * v.released)

-- the end, with the other view's note (this project's own profile)
abbrev pub informed : View → View → View
informed v w = record v { note = w.note; note_place = w.note_place }

-- the two ends in one view again (this project's own profile)
abbrev pub rejoined : View → View → View
rejoined p c = record p { reads = c.reads; taken = c.taken; released = c.released; last_head = c.last_head; head_loads = c.head_loads }

-- the view is the producer's, and not the consumer's (this project's own profile)
abbrev pub IsProducer : View → Type 0
IsProducer v = (v.writes ≡ true) × (v.reads ≡ false)

-- the view is the consumer's, and not the producer's (this project's own profile)
abbrev pub IsConsumer : View → Type 0
IsConsumer v = (v.reads ≡ true) × (v.writes ≡ false)

-- the view is no end's (this project's own profile)
abbrev pub IsNote : View → Type 0
IsNote v = (v.writes ≡ false) × (v.reads ≡ false)

-- a view, and the slots that its seat holds, of which there are none (this project's own profile)
abbrev pub Holder : Type 0
Holder = Me (Unit {0}) View

-- the producer has seen the tail, and loaded it once more (kernel/events/ring_buffer.c)
abbrev pub saw_tail : View → ℕ → View
saw_tail v tail = record v { last_tail = tail; tail_loads = v.tail_loads + 1 }

-- the producer has put the word behind the others (kernel/events/ring_buffer.c)
abbrev pub with_put : View → ℕ → View
with_put v word = record v { put = v.put ++ word ∷ [] }

-- the producer has published what it had put (kernel/events/ring_buffer.c)
abbrev pub all_published : View → View
all_published v = record v { published = v.published ++ v.put; put = [] }

-- the consumer has seen the head, and loaded it once more (perf_event_open(2))
abbrev pub saw_head : View → ℕ → View
saw_head v head = record v { last_head = head; head_loads = v.head_loads + 1 }

-- the consumer has taken the word behind the others (perf_event_open(2))
abbrev pub with_taken : View → ℕ → View
with_taken v word = record v { taken = v.taken ++ word ∷ [] }

-- the consumer has released all that it has taken (perf_event_open(2))
abbrev pub all_released : View → View
all_released v = record v { released = length v.taken }

-- an end's view without its note (this project's own profile)
abbrev pub without_note : View → View
without_note v = record v { note = []; note_place = 0 }

-- the ring of a table, two of whose words are the tail and the head (this project's own profile)
abbrev pub ring_of : TableId → Ring
ring_of id = record { table = id; bytes = 8 * (id.words - 2) }

-- what contracts see of a producer's view (this project's own profile)
abbrev pub producer_end : TableId → View → ProducerEnd
producer_end id v = record { ring = ring_of id; published = v.published; put = v.put; last_tail = v.last_tail; loads = v.tail_loads }

-- what contracts see of a consumer's view (this project's own profile)
abbrev pub consumer_end : TableId → View → ConsumerEnd
consumer_end id v = record { ring = ring_of id; taken = v.taken; released = v.released; last_head = v.last_head; loads = v.head_loads }

-- what a ring's table keeps: its words are the tail, the head and the data words, and its rule is that of its size
-- (this project's own profile)
pub record HoldsTable (id : TableId) (key bytes : ℕ) : Type 0 where
  pub key_is : key ≡ bytes
  pub words : id.words ≡ 2 + cells_of bytes
  pub slots : id.slots ≡ 0
  pub size : IsRingSize bytes

-- what a producer keeps: its seat is the producer's, and `place` is behind the last word put (this project's own
-- profile)
pub record HoldsProducer (id : TableId) (m : Holder) (place : ℕ) : Type 0 where
  pub role : IsProducer m.0
  pub bare : m.1 ≡ []
  pub place_is : place ≡ 8 * (length m.0.published + length m.0.put)
  pub below : place < 2 ^ 63
  pub sound : IsSoundProducer (producer_end id m.0)

-- what a consumer keeps: its seat is the consumer's, and `place` is behind the last word taken (this project's own
-- profile)
pub record HoldsConsumer (id : TableId) (m : Holder) (place : ℕ) : Type 0 where
  pub role : IsConsumer m.0
  pub bare : m.1 ≡ []
  pub place_is : place ≡ 8 * length m.0.taken
  pub below : m.0.last_head < 2 ^ 64
  pub sound : IsSoundConsumer (consumer_end id m.0)

-- inner
-- What contracts see of a ring and of its two ends. Places, heads and tails are in bytes from the start of the stream,
-- and never wrap.
use Rattle.std.specs.Prelude.{◌≡◌, ℕ, ◌+◌, ◌-◌, ◌*◌, ◌/◌, ◌%◌, ◌<◌, ◌≤◌, List, [], ◌++◌, length, take}
use Rattle.atomic_table.specs.Seated.{TableId}
use Rattle.ring_spec.specs.Whole.{size_field, IsWhole}

-- which ring it is, and how many bytes of data it has (this project's own profile)
pub record Ring : Type 0 where
  pub table : TableId
  pub bytes : ℕ

-- the table's words that are the tail and the head (kernel/events/ring_buffer.c)
abbrev pub tail_word : ℕ
tail_word = 0

abbrev pub head_word : ℕ
head_word = 1

-- the data words of a ring of this size (kernel/events/ring_buffer.c)
abbrev pub cells_of : ℕ → ℕ
cells_of bytes = bytes / 8

-- the table's word in which word number j of the stream stands (kernel/events/ring_buffer.c)
abbrev pub cell_of : ℕ → ℕ → ℕ
cell_of bytes j = 2 + j % cells_of bytes

-- the end that writes: the words published, those put since, the last tail seen, and how often it was loaded
-- (kernel/events/ring_buffer.c)
pub record ProducerEnd : Type 0 where
  pub ring : Ring
  pub published : List ℕ
  pub put : List ℕ
  pub last_tail : ℕ
  pub loads : ℕ

-- the end that reads: the words taken, how many of them are released, the last head seen, and how often it was loaded
-- (perf_event_open(2))
pub record ConsumerEnd : Type 0 where
  pub ring : Ring
  pub taken : List ℕ
  pub released : ℕ
  pub last_head : ℕ
  pub loads : ℕ

-- the place behind the last word put (kernel/events/ring_buffer.c)
abbrev pub head_place : ProducerEnd → ℕ
head_place p = 8 * (length p.published + length p.put)

-- the bytes that can still be put: one less than the size, so that a full ring does not look empty
-- (kernel/events/ring_buffer.c)
abbrev pub room_of : ProducerEnd → ℕ
room_of p = p.ring.bytes - 1 - (head_place p - p.last_tail)

-- a place at which a reader may stop: the words published up to it are whole (this project's own profile)
pub record IsStop (published : List ℕ) (place : ℕ) : Type 0 where
  pub of_words : place % 8 ≡ 0
  pub within : place ≤ 8 * length published
  pub whole : IsWhole (take (place / 8) published)

-- the words taken begin a whole list of words that ends at the place (this project's own profile)
pub record LeadsTo (taken : List ℕ) (place : ℕ) : Type 0 where
  pub others : List ℕ
  pub whole : IsWhole (taken ++ others)
  pub ends : 8 * length (taken ++ others) ≡ place

-- a producer between two calls: what is published is whole, and less than the ring's size stands behind the last tail
-- (this project's own profile)
pub record IsSoundProducer (p : ProducerEnd) : Type 0 where
  pub whole : IsWhole p.published
  pub stop : IsStop p.published p.last_tail
  pub fits : head_place p - p.last_tail < p.ring.bytes

-- a consumer between two calls: the words taken lead to the last head, and those released are whole (this project's own
-- profile)
pub record IsSoundConsumer (c : ConsumerEnd) : Type 0 where
  pub leads : LeadsTo c.taken c.last_head
  pub released : c.released ≤ length c.taken
  pub whole : IsWhole (take c.released c.taken)

-- the producer of a new ring (this project's own profile)
abbrev pub new_producer : Ring → ProducerEnd
new_producer ring = record { ring = ring; published = []; put = []; last_tail = 0; loads = 0 }

-- the consumer of a new ring (this project's own profile)
abbrev pub new_consumer : Ring → ConsumerEnd
new_consumer ring = record { ring = ring; taken = []; released = 0; last_head = 0; loads = 0 }

-- the word at place `start` is the first of a block that ends at place `end` or before (this project's own profile)
pub record BeginsBlock (word start end : ℕ) : Type 0 where
  pub some : 8 ≤ size_field word
  pub of_words : size_field word % 8 ≡ 0
  pub within : start + size_field word ≤ end

-- inner
-- What each kind of step tells its end: the word of the table that it is on, how the view changes, and what the end
-- learns. The steps are those of kernel/events/ring_buffer.c.
use Rattle.std.specs.Prelude.{◌≡◌, ◌≢◌, ◌↔◌, ℕ, ◌+◌, ◌*◌, ◌≤◌, [], ◌∷◌, ◌++◌, length}
use mathlib.Core.List.{IsPrefix}
use Rattle.ring_words.specs.{Ends.{tail_word, head_word, cell_of, IsStop, LeadsTo}, declared.view.View.{View}}
use Rattle.ring_words.specs.Views.{Holder, producer_of, consumer_of, informed, rejoined, without_note, saw_tail, with_put, all_published, saw_head, with_taken, all_released}

-- what the producer learns by a tail: it does not fall, it is a stop in the words published, and the note was true
-- (this project's own profile)
pub record LearnsTail (v : View) (tail : ℕ) : Type 0 where
  pub rises : v.last_tail ≤ tail
  pub stop : IsStop v.published tail
  pub note : IsPrefix v.note v.published
  pub reached : v.note_place ≤ tail

-- the producer loads the tail (kernel/events/ring_buffer.c)
pub record LoadsTail (cell : ℕ) (m : Holder) (tail : ℕ) (n : Holder) : Type 0 where
  pub on : cell ≡ tail_word
  pub view : n ≡ (saw_tail m.0 tail, m.1)
  pub learns : LearnsTail m.0 tail

-- the producer stores the next data word of the stream (kernel/events/ring_buffer.c)
pub record StoresWord (cell : ℕ) (m : Holder) (word : ℕ) (n : Holder) : Type 0 where
  pub on : cell ≡ cell_of m.0.bytes (length m.0.published + length m.0.put)
  pub view : n ≡ (with_put m.0 word, m.1)

-- the producer stores the head (kernel/events/ring_buffer.c)
pub record StoresHead (cell : ℕ) (m : Holder) (head : ℕ) (n : Holder) : Type 0 where
  pub on : cell ≡ head_word
  pub view : n ≡ (all_published m.0, m.1)

-- what the consumer learns by a head: it does not fall, the words taken lead to it, and it is not before what the note
-- tells of (this project's own profile)
pub record LearnsHead (v : View) (head : ℕ) : Type 0 where
  pub rises : v.last_head ≤ head
  pub leads : LeadsTo v.taken head
  pub note : 8 * length v.note ≤ head

-- the consumer loads the head (perf_event_open(2))
pub record LoadsHead (cell : ℕ) (m : Holder) (head : ℕ) (n : Holder) : Type 0 where
  pub on : cell ≡ head_word
  pub view : n ≡ (saw_head m.0 head, m.1)
  pub learns : LearnsHead m.0 head

-- the consumer loads the next data word of the stream, and what it has taken still leads to its last head
-- (perf_event_open(2))
pub record LoadsWord (cell : ℕ) (m : Holder) (word : ℕ) (n : Holder) : Type 0 where
  pub on : cell ≡ cell_of m.0.bytes (length m.0.taken)
  pub view : n ≡ (with_taken m.0 word, m.1)
  pub leads : LeadsTo (m.0.taken ++ word ∷ []) m.0.last_head

-- the consumer stores the tail (perf_event_open(2))
pub record StoresTail (cell : ℕ) (m : Holder) (tail : ℕ) (n : Holder) : Type 0 where
  pub on : cell ≡ tail_word
  pub view : n ≡ (all_released m.0, m.1)

-- the consumer loads the tail while it meets the producer: it is its own, and not before what the note tells of (this
-- project's own profile)
pub record ChecksTail (cell : ℕ) (m : Holder) (tail : ℕ) (n : Holder) : Type 0 where
  pub on : cell ≡ tail_word
  pub view : n ≡ m
  pub own : tail ≡ 8 * m.0.released
  pub note : m.0.note_place ≤ tail

-- a load or a store by one end, on a word of the table: it is of one of these kinds (this project's own profile)
pub data IsStep (cell : ℕ) (m : Holder) (value : ℕ) (n : Holder) : Type 0 where
  tail_loaded : LoadsTail cell m value n → IsStep cell m value n
  word_stored : StoresWord cell m value n → IsStep cell m value n
  head_stored : StoresHead cell m value n → IsStep cell m value n
  head_loaded : LoadsHead cell m value n → IsStep cell m value n
  word_loaded : LoadsWord cell m value n → IsStep cell m value n
  tail_stored : StoresTail cell m value n → IsStep cell m value n
  tail_checked : ChecksTail cell m value n → IsStep cell m value n

-- an end's number of loads changes exactly where the producer loads the tail, or the consumer the head (this project's
-- own profile)
abbrev pub LoadsLaw : Type 0
LoadsLaw = (cell : ℕ) (m : Holder) (value : ℕ) (n : Holder) → IsStep cell m value n
    → ((n.0.tail_loads ≢ m.0.tail_loads) ↔ LoadsTail cell m value n) × ((n.0.head_loads ≢ m.0.head_loads) ↔ LoadsHead cell m value n)

-- a split and a join load the tail's word too, and change no number of loads: the ends part, keep notes, and join again
-- (this project's own profile)
abbrev pub SplitsLaw : Type 0
SplitsLaw = (v w : View)
    → ((producer_of v).tail_loads ≡ v.tail_loads) × ((consumer_of v).head_loads ≡ v.head_loads)
    × ((informed v w).tail_loads ≡ v.tail_loads) × ((informed v w).head_loads ≡ v.head_loads)
    × ((rejoined v w).tail_loads ≡ v.tail_loads) × ((rejoined v w).head_loads ≡ w.head_loads)

-- two ends meet: the views before are p and c, and those after p' and c' (this project's own profile)
pub record Meets (p c p' c' : View) : Type 0 where
  pub producer : without_note p' ≡ without_note (saw_tail p (8 * c.released))
  pub consumer : without_note c' ≡ without_note (saw_head c c'.last_head)
  pub rises : p.last_tail ≤ 8 * c.released
  pub stop : IsStop p.published (8 * c.released)
  pub head_rises : c.last_head ≤ c'.last_head
  pub head : 8 * length p.published ≤ c'.last_head
  pub leads : LeadsTo c.taken c'.last_head
  pub prefix : IsPrefix c.taken p.published

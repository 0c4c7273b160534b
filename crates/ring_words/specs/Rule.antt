-- inner
-- The rule of a ring, which holds between any two steps. Word 0 of the table is the tail, word 1 the head, and the
-- others are the data words.
use Rattle.std.specs.Prelude.{◌≡◌, ℕ, ◌+◌, ◌-◌, ◌*◌, ◌/◌, ◌<◌, ◌≤◌, List, [], ◌∷◌, ◌++◌, length, take, filter, slice_index}
use mathlib.Core.{Option.{some}, List.{IsPrefix}}
use lib.ListN.{get_elem?}
use Rattle.atomic_table.specs.Table.{State}
use Rattle.perf_base.specs.Scripts.{IsRingSize}
use Rattle.ring_spec.specs.Whole.{IsWhole}
use Rattle.ring_words.specs.{Ends.{tail_word, head_word, cells_of, cell_of}, declared.view.View.{View}}

-- what ties the table's words to what the producer p and the consumer c know (kernel/events/ring_buffer.c; whole words
-- are this project's own profile)
pub record Tied (bytes : ℕ) (words : List ℕ) (p c : View) : Type 0 where
  pub size : IsRingSize bytes
  pub count : length words ≡ 2 + cells_of bytes
  -- both ends know the size
  pub known : (p.bytes ≡ bytes) × (c.bytes ≡ bytes)
  -- the head and the tail
  pub head : slice_index words head_word ≡ 8 * length p.published
  pub tail : slice_index words tail_word ≡ 8 * c.released
  -- the producer has seen no more than was released
  pub last_tail : p.last_tail ≤ 8 * c.released
  -- what was released was taken, and what was taken was published before the last head seen
  pub taken : IsPrefix c.taken p.published
  pub released : c.released ≤ length c.taken
  pub looked : 8 * length c.taken ≤ c.last_head
  pub last_head : c.last_head ≤ 8 * length p.published
  -- each word that is not released stands in its place, and not all places are in use
  pub stored : (j : ℕ) → c.released ≤ j → j < length (p.published ++ p.put) → slice_index words (cell_of bytes j) ≡ slice_index (p.published ++ p.put) j
  pub room : 8 * (length p.published + length p.put) - p.last_tail < bytes
  -- no end is within a block
  pub whole : IsWhole p.published
  pub whole_released : IsWhole (take c.released p.published)
  pub whole_tail : IsWhole (take (p.last_tail / 8) p.published)
  pub whole_head : IsWhole (take (c.last_head / 8) p.published)

-- a note has a beginning of the words published, and a place that the tail has reached (this project's own profile)
abbrev pub NoteHolds : View → View → View → Type 0
NoteHolds p c v = IsPrefix v.note p.published × (v.note_place ≤ 8 * c.released)

-- one view is the producer's, one is the consumer's, the words are tied to both, and each view's note holds (this
-- project's own profile)
pub record Kept (bytes : ℕ) (s : State (Unit {0}) View) : Type 0 where
  pub producer : View
  pub consumer : View
  pub one_writes : filter (λ v. v.writes) s.views ≡ producer ∷ []
  pub one_reads : filter (λ v. v.reads) s.views ≡ consumer ∷ []
  pub tied : Tied bytes s.words producer consumer
  pub notes : (seat : ℕ) (v : View) → get_elem? s.views seat ≡ some v → NoteHolds producer consumer v

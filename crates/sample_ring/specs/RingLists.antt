-- inner
-- What contracts see of the rings of a run, of the ends that send and of those that take: each a list by ring, with the
-- rings' numbers beside it (this project's own profile).
use Rattle.std.specs.{Prelude.{◌≡◌, ℕ, ◌<◌, ◌==◌, List, length, map, slice_get, slice_set, Option, Some, None}, List.{position_or_len}}
use Rattle.perf_base.specs.declared.numbers.RingNo.{RingNo}
use Rattle.ring_words.specs.Ends.{Ring}
use Rattle.sample_ring.specs.{OutEnds.{OutEnd, new_out}, InEnds.{InEnd, new_in}}

pub record RingList : Type 0 where
  pub numbers : List RingNo
  pub tables : List Ring

pub record OutList : Type 0 where
  pub numbers : List RingNo
  pub outs : List OutEnd

-- a reader that is out is none
pub record InList : Type 0 where
  pub numbers : List RingNo
  pub readers : List (Option InEnd)

-- the place of a ring among these, and that it is there
abbrev pub ring_index : List RingNo → RingNo → ℕ
ring_index numbers ring = position_or_len (λ r. r.0 == ring.0) numbers

abbrev pub HasRing : List RingNo → RingNo → Type 0
HasRing numbers ring = ring_index numbers ring < length numbers

-- the reader of a ring that is there is not out, or is out
abbrev pub HasReader : InList → RingNo → Type 0
HasReader ins ring = (reader : InEnd) × (slice_get ins.readers (ring_index ins.numbers ring) ≡ Some (Some reader))

abbrev pub IsOut : InList → RingNo → Type 0
IsOut ins ring = slice_get ins.readers (ring_index ins.numbers ring) ≡ Some None

-- the list with a reader, or none, at a place
abbrev pub with_slot : InList → ℕ → Option InEnd → InList
with_slot ins place slot = record ins { readers = slice_set ins.readers place slot }

-- The three were made together: of these rings and sizes in bytes, with stores of this number of words.
pub record AreNew (sizes : List (RingNo × ℕ)) (words : ℕ) (rings : RingList) (outs : OutList) (ins : InList) : Type 0 where
  pub ring_numbers : rings.numbers ≡ map (λ s. s.0) sizes
  pub out_numbers : outs.numbers ≡ map (λ s. s.0) sizes
  pub in_numbers : ins.numbers ≡ map (λ s. s.0) sizes
  pub bytes : map (λ t. t.bytes) rings.tables ≡ map (λ s. s.1) sizes
  pub new_outs : outs.outs ≡ map new_out rings.tables
  pub new_readers : ins.readers ≡ map (λ t. Some (new_in t words)) rings.tables

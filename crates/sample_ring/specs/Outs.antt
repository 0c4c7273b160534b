-- inner
-- What the fields of the end that sends keep. It notes the ends of its records in as many cells as the ring has words,
-- each in the cell of its place (this project's own profile).
use Rattle.std.specs.Prelude.{◌≡◌, ℕ, ◌*◌, ◌/◌, ◌%◌, ◌<◌, ◌≤◌, List, [], length, slice_index}
use Rattle.ring_spec.specs.Whole.{IsWhole}
use Rattle.ring_words.specs.Ends.{ProducerEnd, head_place, IsStop, IsSoundProducer}
use Rattle.sample_ring.specs.{declared.sent.RingNumbers.{RingNumbers}, OutEnds.{AreOfRecords}}

-- the cell of a place, of a given number of cells
abbrev pub mark_of : ℕ → ℕ → ℕ
mark_of cells place = place / 8 % cells

-- Each place noted is the end of a record, and each such end from the last tail on is noted.
pub record AreMarks (marks : List ℕ) (words : List ℕ) (tail : ℕ) : Type 0 where
  pub some : 0 < length marks
  pub whole : IsWhole words
  pub stops : (k : ℕ) → k < length marks → IsStop words (slice_index marks k)
  pub found : (place : ℕ) → IsStop words place → tail ≤ place → slice_index marks (mark_of (length marks) place) ≡ place

pub record HoldsOut (p : ProducerEnd) (numbers : RingNumbers) (marks : List ℕ) : Type 0 where
  pub head : numbers.head ≡ head_place p
  pub tail : numbers.tail ≡ p.last_tail
  pub put : p.put ≡ []
  pub bytes : p.ring.bytes ≡ 8 * length marks
  pub small : length marks ≤ 8192
  pub sound : IsSoundProducer p
  pub records : AreOfRecords p.published
  pub pending : numbers.pending ≤ numbers.lost
  pub noted : AreMarks marks p.published p.last_tail

-- inner
-- The theorem of augmenting paths, after Berge and Hall: it says why a search for a free counter is enough. Events
-- are named by their places in the list. This project's own profile.
use Rattle.std.specs.Prelude.{◌≡◌, ◌≢◌, ◌↔◌, ℕ, ◌+◌, ◌<◌, false, List, length, slice_index}
use Rattle.stage_spec.specs.Fits.{fits}
use Rattle.counter_match.specs.Search.{SeatsAllBut, IsFree, CanTake}

-- An augmenting path begins at the last of the list, which has no counter. Each of its events can count on the
-- counter of the next one, and the last of them on a counter that no event has.
pub record IsAugmentingPath (masks seats path : List ℕ) (counter : ℕ) : Type 0 where
  pub some : 0 < length path
  pub first : slice_index path 0 + 1 ≡ length masks
  pub inside : (i : ℕ) → i < length path → slice_index path i < length masks
  pub different : (i j : ℕ) → i < j → j < length path → slice_index path i ≢ slice_index path j
  pub next : (i : ℕ) → i + 1 < length path → CanTake masks path i (slice_index seats (slice_index path (i + 1)))
  pub wanted : (i : ℕ) → i + 1 ≡ length path → CanTake masks path i counter
  pub free : IsFree (slice_index path 0) seats counter

-- Where all events but the last have counters, the list does not fit exactly where there is no augmenting path.
abbrev pub PathLaw : Type 0
PathLaw = (masks seats : List ℕ) (last : ℕ) → last + 1 ≡ length masks → SeatsAllBut last masks seats
    → ((path : List ℕ) (counter : ℕ) → IsAugmentingPath masks seats path counter → ⊥) ↔ (fits masks ≡ false)

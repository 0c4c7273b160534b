-- inner
-- The search for a free counter. Events are named by their places in the list, and by their positions in the queue of
-- a search. After Berge: an event that is reached could hand its counter to the event that it is reached from, if
-- another one were found for it.
use Rattle.std.specs.Prelude.{◌≡◌, ◌≢◌, ℕ, ◌+◌, ◌<◌, ◌≤◌, suc, Bool, List, [], ◌∷◌, ◌++◌, length, slice_index, IsTrue, if◌then◌else◌}
use Rattle.stage_spec.specs.Fits.{can_count}

-- a counter of its mask for each event but the one at a place, and no counter for two
pub record SeatsAllBut (gap : ℕ) (masks counters : List ℕ) : Type 0 where
  pub one_each : length counters ≡ length masks
  pub allowed : (i : ℕ) → i < length masks → i ≢ gap → IsTrue (can_count (slice_index masks i) (slice_index counters i))
  pub different : (i j : ℕ) → i < j → j < length counters → i ≢ gap → j ≢ gap
      → slice_index counters i ≢ slice_index counters j

-- no event but the one at the gap has the counter
pub record IsFree (gap : ℕ) (seats : List ℕ) (counter : ℕ) : Type 0 where
  pub free : (i : ℕ) → i < length seats → i ≢ gap → slice_index seats i ≢ counter

-- the event at a position of the queue can count on the counter
abbrev pub CanTake : List ℕ → List ℕ → ℕ → ℕ → Type 0
CanTake masks queue position counter = IsTrue (can_count (slice_index masks (slice_index queue position)) counter)

-- The queue has the places reached, in order, the last of the list first. Each other one was reached from an earlier
-- place of the queue, whose event can count on its counter.
pub record IsSearch (masks counters queue parents : List ℕ) : Type 0 where
  pub some : 0 < length queue
  pub first : slice_index queue 0 + 1 ≡ length masks
  pub parent_each : length parents ≡ length queue
  pub inside : (q : ℕ) → q < length queue → slice_index queue q < length masks
  pub different : (p q : ℕ) → p < q → q < length queue → slice_index queue p ≢ slice_index queue q
  pub earlier : (q : ℕ) → 0 < q → q < length queue → slice_index parents q < q
  pub wanted : (q : ℕ) → 0 < q → q < length queue
      → CanTake masks queue (slice_index parents q) (slice_index counters (slice_index queue q))

-- a reached event, not the last of the list, has the counter
pub record IsHeld (counters queue : List ℕ) (counter : ℕ) : Type 0 where
  pub position : ℕ
  pub later : 0 < position
  pub reached : position < length queue
  pub is : slice_index counters (slice_index queue position) ≡ counter

-- each counter that one of the first n reached events can take is held by a reached event
pub record IsClosedBelow (n : ℕ) (masks counters queue : List ℕ) : Type 0 where
  pub held : (q counter : ℕ) → q < n → CanTake masks queue q counter → IsHeld counters queue counter

-- so is each counter below n that the event at a position can take
pub record IsClosedAt (position n : ℕ) (masks counters queue : List ℕ) : Type 0 where
  pub held : (counter : ℕ) → counter < n → CanTake masks queue position counter → IsHeld counters queue counter

-- the queue before is the beginning of the queue after
pub record IsExtended (before after : List ℕ) : Type 0 where
  pub longer : length before ≤ length after
  pub same : (q : ℕ) → q < length before → slice_index after q ≡ slice_index before q

-- of a list, what stands at the places that pass the test; the first of the list stands at a given place
abbrev pub picked : {X : Type 0} → (ℕ → Bool) → ℕ → List X → List X
picked test place [] = []
picked test place (x ∷ xs) = (if test place then x ∷ [] else []) ++ picked test (suc place) xs

-- While a free counter is handed back: all but the last event have counters, the event at the position can take the
-- free one, and the events of the queue up to it have the counters that they had when the search began.
pub record IsShift (masks counters queue seats : List ℕ) (position counter : ℕ) : Type 0 where
  pub reached : position < length queue
  pub seated : SeatsAllBut (slice_index queue 0) masks seats
  pub free : (i : ℕ) → i < length seats → i ≢ slice_index queue 0 → slice_index seats i ≢ counter
  pub wanted : CanTake masks queue position counter
  pub same : (q : ℕ) → 0 < q → q ≤ position
      → slice_index seats (slice_index queue q) ≡ slice_index counters (slice_index queue q)

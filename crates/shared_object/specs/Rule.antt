-- inner
-- The rule of a shared object, which holds between any two steps. Word 0 of the table is the turn, and word 1 the count
-- of calls.
use Rattle.std.specs.Prelude.{◌≡◌, ◌≢◌, ℕ, ◌<◌, ◌≤◌, ◌⊎◌, true, List, Some, [], ◌∷◌, length, filter, slice_index, Contains, ◌++◌}
use mathlib.Core.{Option.{none, some}, List.{IsPrefix}}
use lib.ListN.{get_elem?}
use Rattle.atomic_table.specs.Table.{State}
use Rattle.shared_object.specs.{Histories.{most_calls}, Views.{Slot, spent}, declared.view.View.{View}}

-- the table's words that are the turn and the count of calls (this project's own profile)
abbrev pub turn_word : ℕ
turn_word = 0

abbrev pub count_word : ℕ
count_word = 1

-- the views that hold the turn (this project's own profile)
abbrev pub holders : {K C R : Type 0} → List (View K C R) → List (View K C R)
holders = filter (λ v. v.holds)

module _ {O K C R : Type 0} (after : K → O → List (C × R) → Type 0) where
  -- the value is an object as after these calls, beside the calls (this project's own profile)
  abbrev pub Stores : K → List (C × R) → Slot O C R → Type 0
  Stores key log value = (object : O) × (value ≡ Some (object, log)) × after key object log

  -- the turn is 0 where no view holds it; then the object is at home, as after the history and beside it (this
  -- project's own profile)
  pub record IsFree (key : K) (log : List (C × R)) (s : State (Slot O C R) (View K C R)) : Type 0 where
    pub turn : slice_index s.words turn_word ≡ 0
    pub none_holds : holders s.views ≡ []
    pub value : Slot O C R
    pub at_home : s.homes ≡ some value ∷ []
    pub stores : Stores key log value

module _ {O K C R : Type 0} where
  -- else the turn is 1, and exactly one view holds it; the object is away (this project's own profile)
  pub record IsHeld (s : State (Slot O C R) (View K C R)) : Type 0 where
    pub turn : slice_index s.words turn_word ≡ 1
    pub holder : View K C R
    pub one_holds : holders s.views ≡ holder ∷ []
    pub away : s.homes ≡ none ∷ []

module _ {K C R : Type 0} (legal : K → List (C × R) → Type 0) where
  -- what a view knows of the history is so (this project's own profile)
  pub record Knows (key : K) (log : List (C × R)) (v : View K C R) : Type 0 where
    pub key_is : v.key ≡ Some key
    -- the calls that it has seen are legal, and begin the history; so do those of its note
    pub seen : IsPrefix v.seen log
    pub legal_seen : legal key v.seen
    pub note : IsPrefix v.note log
    pub legal_note : legal key v.note
    -- only a pass's view holds the turn: a note does not
    pub turn_of_pass : v.holds ≡ true → v.is_pass ≡ true
    -- its own places are below the count
    pub own : (place : ℕ) → Contains v.own place → place < length log
    -- where it holds the turn, its note is the whole history; where it has also loaded the count since, it has seen the
    -- whole
    pub whole_note : v.holds ≡ true → v.note ≡ log
    pub whole_seen : v.holds ≡ true → v.loaded ≡ true → v.seen ≡ log

module _ {K C R : Type 0} where
  -- the view is of a pass that was parted from one of these (this project's own profile)
  pub record IsPartIn (views : List (View K C R)) (v : View K C R) : Type 0 where
    pub seat : ℕ
    pub parent : View K C R
    pub at : get_elem? views seat ≡ some parent
    pub of_pass : parent.is_pass ≡ true
    pub number : ℕ
    pub before : number < parent.parted
    pub name : v.name ≡ parent.name ++ number ∷ []

  -- a pass among these made the call at this place (this project's own profile)
  pub record IsOwned (views : List (View K C R)) (place : ℕ) : Type 0 where
    pub seat : ℕ
    pub owner : View K C R
    pub at : get_elem? views seat ≡ some owner
    pub of_pass : owner.is_pass ≡ true
    pub own : Contains owner.own place

  -- no two passes have one name; each was parted from one of them, but the first; and each of so many calls is one's
  -- own (this project's own profile)
  pub record AreNamed (views : List (View K C R)) (count : ℕ) : Type 0 where
    pub apart : (i j : ℕ) (v w : View K C R) → i ≢ j → get_elem? views i ≡ some v → get_elem? views j ≡ some w → v.is_pass ≡ true → w.is_pass ≡ true → v.name ≢ w.name
    pub parts : (seat : ℕ) (v : View K C R) → get_elem? views seat ≡ some v → v.is_pass ≡ true → (v.name ≡ []) ⊎ IsPartIn views v
    pub owned : (place : ℕ) → place < count → IsOwned views place

module _ {O K C R : Type 0} (after : K → O → List (C × R) → Type 0) (legal : K → List (C × R) → Type 0) where
  -- what holds between any two steps (this project's own profile)
  pub record IsKept (key : K) (s : State (Slot O C R) (View K C R)) : Type 0 where
    -- the history, which is legal, and whose length is the count
    pub log : List (C × R)
    pub legal_log : legal key log
    pub room : length log ≤ most_calls
    pub words : length s.words ≡ 2
    pub count : slice_index s.words count_word ≡ length log
    pub turn : IsFree after key log s ⊎ IsHeld s
    -- each view knows what is so, except those of seats that were joined to others
    pub views : (seat : ℕ) (v : View K C R) → get_elem? s.views seat ≡ some v → (v ≡ spent) ⊎ Knows legal key log v
    -- the passes have names, and each call is some pass's
    pub names : AreNamed s.views (length log)
    -- no place is an own place of two views
    pub apart : (i j : ℕ) (v w : View K C R) → i ≢ j → get_elem? s.views i ≡ some v → get_elem? s.views j ≡ some w
        → (place : ℕ) → Contains v.own place → Contains w.own place → ⊥

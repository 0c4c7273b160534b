-- inner
-- What each kind of step tells its seat: the word of the table that it is on, how the view and the slots held change,
-- and what the seat learns.
use Rattle.std.specs.Prelude.{◌≡◌, ◌≢◌, ℕ, ◌≤◌, ◌⊎◌, true, List, Option, Some, ◌∷◌, length}
use mathlib.Core.List.{IsPrefix}
use Rattle.atomic_table.specs.Table.{rest}
use Rattle.shared_object.specs.{Histories.{most_calls}, Views.{Slot, Holder, finding, with_turn, all_seen, told, with_own, at_rest}}
use Rattle.shared_object.specs.Rule.{turn_word, count_word, Stores}

module _ {O K C R : Type 0} (after : K → O → List (C × R) → Type 0) (legal : K → List (C × R) → Type 0) where
  -- a compare_exchange that found the turn free: the seat has the turn and the object, and a note of the whole history
  -- (this project's own profile)
  pub record WinsTurn (m n : Holder O K C R) : Type 0 where
    pub log : List (C × R)
    pub value : Slot O C R
    pub view : n ≡ (with_turn m.0 log, (0, value) ∷ m.1)
    pub room : length log ≤ most_calls
    pub prefix : IsPrefix m.0.seen log
    pub legal_log : (key : K) → m.0.key ≡ Some key → legal key log
    pub stores : (key : K) → m.0.key ≡ Some key → Stores after key log value

  -- a compare_exchange of the turn, from 0 to 1: a word other than 0 is kept among the words found, and nothing else
  -- changes (this project's own profile)
  pub record TakesTurn (cell : ℕ) (m : Holder O K C R) (found : ℕ) (n : Holder O K C R) : Type 0 where
    pub on : cell ≡ turn_word
    pub held : found ≢ 0 → n ≡ (finding m.0 found, m.1)
    pub free : found ≡ 0 → WinsTurn m n

  -- a load of the count: the whole history is seen (this project's own profile)
  pub record LoadsCount (cell : ℕ) (m : Holder O K C R) (count : ℕ) (n : Holder O K C R) : Type 0 where
    pub on : cell ≡ count_word
    pub log : List (C × R)
    pub view : n ≡ (all_seen m.0 log, m.1)
    pub length_is : count ≡ length log
    pub room : length log ≤ most_calls
    pub prefix : IsPrefix m.0.seen log
    pub whole : m.0.holds ≡ true → log ≡ m.0.note
    pub legal_log : (key : K) → m.0.key ≡ Some key → legal key log

module _ {O K C R : Type 0} where
  -- a load of the count while two passes meet: what the seat had seen and what its note tells of begin one history
  -- (this project's own profile)
  pub record ComparesCount (cell : ℕ) (m : Holder O K C R) (count : ℕ) (n : Holder O K C R) : Type 0 where
    pub on : cell ≡ count_word
    pub view : n ≡ (told m.0, m.1)
    pub one : IsPrefix m.0.seen m.0.note ⊎ IsPrefix m.0.note m.0.seen

  -- a store of the count, one higher: the call and its reply stand behind the others (this project's own profile)
  pub record StoresCount (entry : Option (C × R)) (cell : ℕ) (m : Holder O K C R) (count : ℕ) (n : Holder O K C R) : Type 0 where
    pub on : cell ≡ count_word
    pub added : C × R
    pub is : entry ≡ Some added
    pub view : n ≡ (with_own m.0 added, m.1)

  -- a store of the turn: the object is at home again (this project's own profile)
  pub record StoresTurn (cell : ℕ) (m : Holder O K C R) (turn : ℕ) (n : Holder O K C R) : Type 0 where
    pub on : cell ≡ turn_word
    pub view : n ≡ (at_rest m.0, rest m.1)

-- inner
-- The views of the seats at a shared object's table: how they begin, part and join.
use Rattle.std.specs.Prelude.{◌≡◌, ℕ, ◌+◌, true, false, List, Option, Some, None, [], ◌∷◌, ◌++◌, length}
use Rattle.atomic_table.specs.{Seated.{TableId}, Table.{Me}}
use Rattle.shared_object.specs.{Histories.{PassView, longer}, declared.view.View.{View}}

-- what the slot holds: the object with its history, or nothing while a call runs (this project's own profile)
abbrev pub Slot : Type 0 → Type 0 → Type 0 → Type 0
Slot O C R = Option (O × List (C × R))

-- a view, and the slots that its seat holds (this project's own profile)
abbrev pub Holder : Type 0 → Type 0 → Type 0 → Type 0 → Type 0
Holder O K C R = Me (Slot O C R) (View K C R)

module _ {K C R : Type 0} where
  -- a view that has seen nothing (this project's own profile)
  abbrev pub blank : Option K → View K C R
  blank key =
      record { key = key; is_pass = false; name = []; parted = 0; holds = false; loaded = false; seen = []; note = []; own = []; found = [] }

  -- the view of the first pass (this project's own profile)
  abbrev pub first : K → View K C R
  first key = record (blank (Some key)) { is_pass = true }

  -- the view of a seat that was joined to another (this project's own profile)
  abbrev pub spent : View K C R
  spent = blank None

  -- the view, from which one more pass was parted (this project's own profile)
  abbrev pub parting : View K C R → View K C R
  parting v = record v { parted = v.parted + 1 }

  -- the view of the pass that is parted from it: it has seen the same, and its name says from which pass it was parted,
  -- and how many were before it (this project's own profile)
  abbrev pub part : View K C R → View K C R
  part v = record (blank v.key) { is_pass = true; name = v.name ++ v.parted ∷ []; seen = v.seen; note = v.seen }

  -- a note of what the view has seen, for another to take in: it is no pass's (this project's own profile)
  abbrev pub note_of : View K C R → View K C R
  note_of v = record (blank v.key) { seen = v.seen; note = v.seen }

  -- the view with a note of what the other has seen (this project's own profile)
  abbrev pub noted : View K C R → View K C R → View K C R
  noted v w = record v { note = w.seen }

  -- the view, which has found one more word (this project's own profile)
  abbrev pub finding : View K C R → ℕ → View K C R
  finding v word = record v { found = v.found ++ word ∷ [] }

  -- the view with the turn and a note of the whole history, whose count it has not loaded since (this project's own
  -- profile)
  abbrev pub with_turn : View K C R → List (C × R) → View K C R
  with_turn v log = record (finding v 0) { holds = true; loaded = false; note = log }

  -- the view, which has loaded the count and seen the whole history (this project's own profile)
  abbrev pub all_seen : View K C R → List (C × R) → View K C R
  all_seen v log = record v { seen = log; loaded = true }

  -- the view, which has seen the longer of what it had seen and what its note tells of (this project's own profile)
  abbrev pub told : View K C R → View K C R
  told v = record v { seen = longer v.seen v.note }

  -- the view, which has seen one more call of its own (this project's own profile)
  abbrev pub with_own : View K C R → C × R → View K C R
  with_own v entry = record v { seen = v.seen ++ entry ∷ []; note = v.seen ++ entry ∷ []; own = v.own ++ length v.seen ∷ [] }

  -- the view without the turn (this project's own profile)
  abbrev pub at_rest : View K C R → View K C R
  at_rest v = record v { holds = false }

  -- what contracts see of a pass's view (this project's own profile)
  abbrev pub pass_view : TableId → View K C R → PassView K C R
  pass_view id v = record { table = id; key = v.key; name = v.name; parted = v.parted; seen = v.seen; own = v.own; found = v.found }

  -- what a pass keeps: its seat was joined to none, and has no turn (this project's own profile)
  pub record IsPass (v : View K C R) : Type 0 where
    pub key : K
    pub key_is : v.key ≡ Some key
    pub of_pass : v.is_pass ≡ true
    pub no_turn : v.holds ≡ false

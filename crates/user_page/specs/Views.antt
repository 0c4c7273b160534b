-- inner
-- The views of a page's seats: how they begin, part, travel and change.
use Rattle.std.specs.Prelude.{◌≡◌, ℕ, ◌+◌, ◌<◌, true, false, List, [], ◌∷◌, ◌++◌, Some}
use Rattle.atomic_table.specs.Table.{Me}
use Rattle.crossbeam_utils.specs.{declared.cache_padded.CachePadded.{CachePadded}, Padded.{padded_value}}
use Rattle.user_page.specs.{declared.{look.Look.{Look}, view.View.{View}}, Looks.{PageName, zero_look, last_look, IsLookList, WriterEnd, WatcherEnd}}

-- what a place of the page has: a look, with nothing else on its cache lines (this project's own profile)
abbrev pub Place : Type 0
Place = CachePadded Look

-- a view, and the places that its seat holds (this project's own profile)
abbrev pub Holder : Type 0
Holder = Me Place View

-- the one view of a new page is both ends, and neither has taken its place (this project's own profile)
abbrev pub both_ends : View
both_ends = record { writes = true; watches = true; looks = zero_look ∷ []; writer_place = 0; watcher_place = 1; placed = false; steps = 0; note = [] }

-- the writer's part of such a view (this project's own profile)
abbrev pub writer_of : View → View
writer_of v = record v { watches = false }

-- the watcher's part of such a view (this project's own profile)
abbrev pub watcher_of : View → View
watcher_of v = record v { writes = false }

-- a view that is no end, and knows these looks (this project's own profile)
abbrev pub noted : List Look → View
noted looks = record { writes = false; watches = false; looks = looks; writer_place = 0; watcher_place = 0; placed = false; steps = 0; note = [] }

-- a copy of what an end knows (this project's own profile)
abbrev pub note_of : View → View
note_of v = noted v.looks

-- the view of a seat that was joined to another (this project's own profile)
abbrev pub spent : View
spent = noted []

-- the end, with a note of these looks (this project's own profile)
abbrev pub informed : View → List Look → View
informed v looks = record v { note = looks }

-- the writer has published the look, and got the place for its own (this project's own profile)
abbrev pub published : View → Look → ℕ → View
published v look place = record v { looks = v.looks ++ look ∷ []; writer_place = place; steps = v.steps + 1 }

-- the watcher has seen the looks, and got the place for its own (this project's own profile)
abbrev pub looked : View → List Look → ℕ → View
looked v looks place = record v { looks = looks; watcher_place = place; steps = v.steps + 1 }

-- the writer has loaded the word (this project's own profile)
abbrev pub checked : View → View
checked v = record v { steps = v.steps + 1 }

-- the view is the writer's, and not the watcher's (this project's own profile)
abbrev pub IsWriter : View → Type 0
IsWriter v = (v.writes ≡ true) × (v.watches ≡ false)

-- the view is the watcher's, and not the writer's (this project's own profile)
abbrev pub IsWatcher : View → Type 0
IsWatcher v = (v.watches ≡ true) × (v.writes ≡ false)

-- the view is no end's (this project's own profile)
abbrev pub IsNote : View → Type 0
IsNote v = (v.writes ≡ false) × (v.watches ≡ false)

-- the seat holds this place and no other (this project's own profile)
abbrev pub Holds : Holder → ℕ → Type 0
Holds m place = (value : Place) × (m.1 ≡ (place, value) ∷ [])

-- the look in the place that a seat holds (this project's own profile)
abbrev pub held_look : List (ℕ × Place) → Look
held_look [] = zero_look
held_look (x ∷ xs) = padded_value x.1

-- the writer's seat before it takes its first place (this project's own profile)
abbrev pub IsUnplacedWriter : Holder → Type 0
IsUnplacedWriter m = IsWriter m.0 × (m.0.placed ≡ false) × (m.1 ≡ [])

-- the watcher's seat before it takes its first place (this project's own profile)
abbrev pub IsUnplacedWatcher : Holder → Type 0
IsUnplacedWatcher m = IsWatcher m.0 × (m.0.placed ≡ false) × (m.1 ≡ [])

-- the writer's seat holds its place (this project's own profile)
pub record WriterSits (m : Holder) (place : ℕ) : Type 0 where
  pub role : IsWriter m.0
  pub placed : m.0.placed ≡ true
  pub place_is : m.0.writer_place ≡ place
  pub held : Holds m place
  pub within : place < 3

-- the watcher's seat holds its place (this project's own profile)
pub record WatcherSits (m : Holder) (place : ℕ) : Type 0 where
  pub role : IsWatcher m.0
  pub placed : m.0.placed ≡ true
  pub place_is : m.0.watcher_place ≡ place
  pub held : Holds m place
  pub within : place < 3

-- what contracts see of the writer's view (this project's own profile)
abbrev pub writer_end : PageName → View → WriterEnd
writer_end id v = record { page = id; published = v.looks; steps = v.steps }

-- what contracts see of the watcher's view (this project's own profile)
abbrev pub watcher_end : PageName → View → WatcherEnd
watcher_end id v = record { page = id; seen = v.looks; steps = v.steps }

-- what a writer keeps: its seat holds its place, and what it has published never falls (this project's own profile)
pub record HoldsWriter (m : Holder) (place : ℕ) : Type 0 where
  pub sits : WriterSits m place
  pub sound : IsLookList m.0.looks

-- what a watcher keeps: its seat holds its place, and it knows its last look (this project's own profile)
pub record HoldsWatcher (m : Holder) (place : ℕ) (look : Look) : Type 0 where
  pub sits : WatcherSits m place
  pub last : last_look m.0.looks ≡ Some look
  pub sound : IsLookList m.0.looks

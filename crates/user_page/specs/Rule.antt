-- inner
-- The rule of a page, which holds between any two steps. Its word is twice the place that is neither end's, and 1 more
-- where the watcher has not seen the last look.
use Rattle.std.specs.Prelude.{◌≡◌, ◌≢◌, ℕ, ◌+◌, ◌*◌, ◌<◌, ◌≤◌, Bool, true, false, List, [], ◌∷◌, length, Some}
use mathlib.Core.{Option.{Option, some}, List.{IsPrefix}}
use lib.ListN.{get_elem?}
use Rattle.atomic_table.specs.Table.{State}
use Rattle.crossbeam_utils.specs.Padded.{padded_value}
use Rattle.user_page.specs.{declared.{look.Look.{Look}, view.View.{View}}, Looks.{last_look, NeverFalls}, Views.{Place}}

-- the place is at home, with some look (this project's own profile)
abbrev pub IsHome : List (Option Place) → ℕ → Type 0
IsHome homes place = (value : Place) × (get_elem? homes place ≡ some (some value))

-- what ties the word and the places to what the writer w and the watcher r know (this project's own profile)
pub record Laid (words : List ℕ) (homes : List (Option Place)) (w r : View) : Type 0 where
  -- the place between the ends, and whether its look is new
  pub middle : ℕ
  pub fresh : ℕ
  pub word : words ≡ (2 * middle + fresh) ∷ []
  pub flag : fresh ≤ 1
  -- the three places differ
  pub count : length homes ≡ 3
  pub within : (middle < 3) × (w.writer_place < 3) × (r.watcher_place < 3)
  pub apart : (w.writer_place ≢ r.watcher_place) × (middle ≢ w.writer_place) × (middle ≢ r.watcher_place)
  -- the middle place is at home, and each end's is until it takes it
  pub home : IsHome homes middle
  pub writer_home : w.placed ≡ false → IsHome homes w.writer_place
  pub watcher_home : r.placed ≡ false → IsHome homes r.watcher_place
  -- a new look is the last one published, and where there is none the watcher has seen all
  pub newest : fresh ≡ 1 → last_look w.looks ≡ Some (padded_value home.0)
  pub all_seen : fresh ≡ 0 → r.looks ≡ w.looks
  pub rises : NeverFalls w.looks

-- the view is the only one of its kind (this project's own profile)
pub record IsOnly (test : View → Bool) (views : List View) (v : View) : Type 0 where
  pub seat : ℕ
  pub there : get_elem? views seat ≡ some v
  pub is : test v ≡ true
  pub alone : (other : ℕ) (u : View) → get_elem? views other ≡ some u → test u ≡ true → other ≡ seat

-- all that a view knows is a beginning of the looks published (this project's own profile)
abbrev pub Begins : List Look → View → Type 0
Begins looks v = IsPrefix v.looks looks × IsPrefix v.note looks

-- one view is the writer's, one is the watcher's, the word and the places are tied to both, and each view knows a
-- beginning of the looks published (this project's own profile)
pub record Kept (s : State Place View) : Type 0 where
  pub writer : View
  pub watcher : View
  pub one_writes : IsOnly (λ v. v.writes) s.views writer
  pub one_watches : IsOnly (λ v. v.watches) s.views watcher
  pub laid : Laid s.words s.homes writer watcher
  pub begins : (seat : ℕ) (v : View) → get_elem? s.views seat ≡ some v → Begins writer.looks v

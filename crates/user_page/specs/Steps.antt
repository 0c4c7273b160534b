-- inner
-- What each kind of step tells its end: how the view and the places held change, and what the end learns. `found` is
-- the page's word as the step found it.
use Rattle.std.specs.Prelude.{◌≡◌, ℕ, ◌+◌, ◌/◌, ◌%◌, ◌<◌, true, List, Some}
use mathlib.Core.List.{IsPrefix}
use Rattle.user_page.specs.{declared.{look.Look.{Look}, view.View.{View}}, Looks.{last_look, NeverFalls}}
use Rattle.user_page.specs.Views.{Holder, Holds, held_look, writer_of, watcher_of, informed, published, looked, checked}

-- the writer takes its first place (this project's own profile)
pub record PlacesWriter (m : Holder) (found : ℕ) (n : Holder) : Type 0 where
  pub view : n.0 ≡ record m.0 { placed = true }
  pub held : Holds n m.0.writer_place

-- the watcher takes its first place (this project's own profile)
pub record PlacesWatcher (m : Holder) (found : ℕ) (n : Holder) : Type 0 where
  pub view : n.0 ≡ record m.0 { placed = true }
  pub held : Holds n m.0.watcher_place

-- the writer gives its place for the one between the ends: the look in it is published (this project's own profile)
pub record Publishes (m : Holder) (found : ℕ) (n : Holder) : Type 0 where
  pub view : n.0 ≡ published m.0 (held_look m.1) (found / 2)
  pub held : Holds n (found / 2)
  pub within : found / 2 < 3

-- the watcher gives its place for the one between the ends: it has then seen all that is published, which is more than
-- before only where the word was odd (this project's own profile)
pub record TakesNewest (m : Holder) (found : ℕ) (n : Holder) : Type 0 where
  pub view : n.0 ≡ looked m.0 n.0.looks (found / 2)
  pub held : Holds n (found / 2)
  pub within : found / 2 < 3
  pub prefix : IsPrefix m.0.looks n.0.looks
  pub note : IsPrefix m.0.note n.0.looks
  pub rises : NeverFalls n.0.looks
  pub same : found % 2 ≡ 0 → n.0.looks ≡ m.0.looks
  pub last : found % 2 ≡ 1 → last_look n.0.looks ≡ Some (held_look n.1)

-- the writer loads the word, and learns that its note was published (this project's own profile)
pub record ChecksNote (m : Holder) (found : ℕ) (n : Holder) : Type 0 where
  pub view : n ≡ (checked m.0, m.1)
  pub note : IsPrefix m.0.note m.0.looks

-- a step of an end that has its place, on the page's word: it is of one of these kinds (this project's own profile)
pub data IsStep (m : Holder) (found : ℕ) (n : Holder) : Type 0 where
  publishes : Publishes m found n → IsStep m found n
  takes_newest : TakesNewest m found n → IsStep m found n
  checks_note : ChecksNote m found n → IsStep m found n

-- each such step raises the end's number of steps by exactly 1 (this project's own profile)
abbrev pub StepsLaw : Type 0
StepsLaw = (m : Holder) (found : ℕ) (n : Holder) → IsStep m found n → n.0.steps ≡ m.0.steps + 1

-- a split and a join load the word too, and change no number of steps (this project's own profile)
abbrev pub NotesLaw : Type 0
NotesLaw = (v : View) (looks : List Look) → ((writer_of v).steps ≡ v.steps) × ((watcher_of v).steps ≡ v.steps) × ((informed v looks).steps ≡ v.steps)

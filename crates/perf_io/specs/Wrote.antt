-- believed
-- What a call that writes a text to a sink did, by what the sink shows. This project's own profile of writing.
use Rattle.std.specs.Prelude.{ℕ, ◌≤◌, List, length, take, Result, MatchResult}
use Rattle.perf_io.specs.{Outside.{Adds, Rose, SinkShows}, declared.outside.Failed.{Failed}}

-- Some front of the text was added, and the count of faults rose.
abbrev pub WroteFront : {K : Type 0} → SinkShows K → K → K → List ℕ → Type 0
WroteFront shows before after text =
    Rose shows.last_fault (shows.faults before) (shows.faults after) × ((n : ℕ) × (n ≤ length text) × Adds (shows.held before) (shows.held after) (take n text))

-- The whole text was added where the answer is Ok, and where it is not, some front of it was added and the count of
-- faults rose.
pub record Wrote {K : Type 0} (shows : SinkShows K) (before after : K) (answer : Result (Unit {0}) Failed) (text : List ℕ) : Type 0 where
  -- The count of faults never falls.
  pub count : shows.faults before ≤ shows.faults after
  -- What was added.
  pub written : MatchResult answer (λ _. Adds (shows.held before) (shows.held after) text) (λ _. WroteFront shows before after text)

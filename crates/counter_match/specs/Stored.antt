-- inner
-- How a seating is stored: arrays, whose first places are in use. This project's own profile.
use Rattle.std.specs.Prelude.{ℕ, ◌<◌, ◌≤◌, List, take, All}
use Rattle.perf_base.specs.{declared.numbers.EventNo.{EventNo}, Masks.{IsMask}}
use Rattle.stage_spec.specs.{Fits.{IsAssignment}, Tight.{masks_of}}
use Rattle.counter_match.specs.{Seating.{AreDistinct, Seated}, declared.seating.Seating.{Seating}}

-- the events, and their counters
abbrev pub events_of : Seating → List (EventNo × ℕ)
events_of s = take s.used s.events

abbrev pub seats_of : Seating → List ℕ
seats_of s = take s.used s.seats

-- the counters are an assignment, and there is a place left
pub record IsSeating (counters : ℕ) (s : Seating) : Type 0 where
  pub few : s.used ≤ 16
  pub assigned : IsAssignment (masks_of (events_of s)) (seats_of s)
  pub masks : All (IsMask counters) (masks_of (events_of s))

-- what contracts see
abbrev pub seated_of : ℕ → Seating → Seated
seated_of counters s = record { counters = counters; events = events_of s; seats = seats_of s }

-- what is always so
pub record IsKept (counters : ℕ) (s : Seating) : Type 0 where
  pub some : 0 < counters
  pub most : counters ≤ 16
  pub seating : IsSeating counters s
  pub distinct : AreDistinct (events_of s)

-- inner
-- Hardware events on the counters of one processor. This project's own profile.
use Rattle.std.specs.{Prelude.{◌≢◌, ℕ, ◌<◌, ◌≤◌, List, [], map, All}, List.{AllPairs, zip}}
use Rattle.perf_base.specs.{Masks.{IsMask}, declared.numbers.EventNo.{EventNo}}
use Rattle.stage_spec.specs.{Fits.{IsAssignment}, Tight.{masks_of}}

-- what is known of a seating: how many counters the processor has, the events with their masks in order of coming,
-- and the counter of each
pub record Seated : Type 0 where
  pub counters : ℕ
  pub events : List (EventNo × ℕ)
  pub seats : List ℕ

-- no event comes twice
abbrev pub AreDistinct : List (EventNo × ℕ) → Type 0
AreDistinct events = AllPairs (λ one other. one.0 ≢ other.0) events

-- the slots of events
abbrev pub slots_of : List (EventNo × ℕ) → List EventNo
slots_of events = map (λ event. event.0) events

-- the events with their counters
abbrev pub seat_list : Seated → List (EventNo × ℕ)
seat_list s = zip (slots_of s.events) s.seats

-- No counter serves two events, and each event is on a counter of its mask.
pub record IsSound (s : Seated) : Type 0 where
  pub some : 0 < s.counters
  pub most : s.counters ≤ 16
  pub assigned : IsAssignment (masks_of s.events) s.seats
  pub masks : All (IsMask s.counters) (masks_of s.events)
  pub distinct : AreDistinct s.events

-- no event on some counters
abbrev pub empty_seating : ℕ → Seated
empty_seating counters = record { counters = counters; events = []; seats = [] }

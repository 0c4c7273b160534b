-- inner
-- The stretches between the turns of one event instance, by which its times are said without any stamp. This project's
-- own profile.
use Rattle.std.specs.Prelude.{◌≡◌, ℕ, ◌+◌, Bool, List, [], ◌∷◌, sum_by, if◌then◌else◌}
use Rattle.event_times.specs.Times.{Times, fresh_times, enabled_at, running_at, turned}

-- a stretch between two turns: how long it is, and whether the instance is ready and on all along
pub record Stretch : Type 0 where
  pub length : ℕ
  pub ready : Bool
  pub on : Bool

-- the times after a turn at the beginning of each stretch, the first of which begins at a clock
abbrev pub turned_along : ℕ → List Stretch → Times → Times
turned_along clock [] t = t
turned_along clock (s ∷ rest) t = turned_along (clock + s.length) rest (turned clock s.ready s.on t)

-- the clock at which stretches are over, and how long an instance was ready, or on, in them
abbrev pub over_at : ℕ → List Stretch → ℕ
over_at clock stretches = clock + sum_by (λ s. s.length) stretches

abbrev pub ready_for : List Stretch → ℕ
ready_for stretches = sum_by (λ s. if s.ready then s.length else 0) stretches

abbrev pub on_for : List Stretch → ℕ
on_for stretches = sum_by (λ s. if s.on then s.length else 0) stretches

-- For any turns in the order of their clocks, the enabled time is the length of the stretches in which the instance was
-- ready, and the running time of those in which it was on.
abbrev pub StretchLaw : Type 0
StretchLaw = (clock : ℕ) (stretches : List Stretch)
    → (enabled_at (over_at clock stretches) (turned_along clock stretches fresh_times) ≡ ready_for stretches)
    × (running_at (over_at clock stretches) (turned_along clock stretches fresh_times) ≡ on_for stretches)

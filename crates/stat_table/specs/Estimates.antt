-- believed
-- What the value and the times of an event say of its whole time. perf_event_open(2): the time enabled and the time
-- running serve to estimate what the count would have been, had the event been on a counter all the time. Whole
-- numbers, exact, stand for perf's double.
use Rattle.std.specs.Prelude.{◌≡◌, ℕ, ◌*◌, ◌/◌, ◌≤◌, ◌<◌, ◌==◌, if◌then◌else◌, Option, Some, None, MatchOption, IfSome}

-- The greatest number that has a property.
pub record IsGreatest (Has : ℕ → Type 0) (q : ℕ) : Type 0 where
  -- It has it.
  pub has : Has q
  -- No greater number has it.
  pub greatest : (n : ℕ) → Has n → n ≤ q

-- The value times the enabled time over the running time, rounded down; none where the event never ran.
abbrev pub estimate_of : ℕ → ℕ → ℕ → Option ℕ
estimate_of value enabled running = if running == 0 then None else Some (value * enabled / running)

-- The running time in hundredths of a percent of the enabled time, rounded down; none where the event was never
-- enabled.
abbrev pub share_of : ℕ → ℕ → Option ℕ
share_of enabled running = if enabled == 0 then None else Some (running * 10000 / enabled)

-- An estimate is the greatest whole number whose product with the running time is at most the value times the enabled
-- time. There is none exactly where the running time is 0.
abbrev pub EstimateLaw : Type 0
EstimateLaw = (value enabled running : ℕ)
    → MatchOption (estimate_of value enabled running) (running ≡ 0) (IsGreatest (λ q. q * running ≤ value * enabled))

-- A share is the greatest whole number whose product with the enabled time is at most the running time times 10000.
-- There is none exactly where the enabled time is 0.
abbrev pub ShareLaw : Type 0
ShareLaw = (enabled running : ℕ)
    → MatchOption (share_of enabled running) (enabled ≡ 0) (IsGreatest (λ h. h * enabled ≤ running * 10000))

-- An event that ran all its enabled time is estimated at its value.
abbrev pub FullTimeLaw : Type 0
FullTimeLaw = (value enabled running : ℕ) → running ≡ enabled → 0 < running → estimate_of value enabled running ≡ Some value

-- The estimate of an event that ran for no more than its enabled time is no less than its value, and its share no more
-- than the whole.
abbrev pub PartTimeLaw : Type 0
PartTimeLaw = (value enabled running : ℕ) → running ≤ enabled
    → IfSome (estimate_of value enabled running) (λ q. value ≤ q) × IfSome (share_of enabled running) (λ h. h ≤ 10000)

-- inner
-- The count and the remainder of one event instance, after count, sample_period and period_left of
-- kernel/events/core.c. One that does not sample follows a running total, as event->count follows the counter by
-- prev_count there: the stamp is what the total had up to which the count is kept. That occurrences are taken one by
-- one is this project's own profile.
use Rattle.std.specs.Prelude.{◌≡◌, ◌≢◌, ℕ, ◌+◌, ◌-◌, ◌<◌, ◌≤◌, Bool, true, false, if◌then◌else◌}
use Rattle.stage_spec.specs.Occurrences.{left_after}

-- How often an instance was hit up to its stamp, its period, 0 where it does not sample, what is left of the period,
-- and whether it counts along with its total since then.
pub record Counts : Type 0 where
  pub count : ℕ
  pub period : ℕ
  pub left : ℕ
  pub stamp : ℕ
  pub along : Bool

-- There is no remainder without a period, and else it is from 1 to the period.
pub record IsWithinPeriod (period left : ℕ) : Type 0 where
  pub at_most : left ≤ period
  pub some : period ≢ 0 → 0 < left

-- and only an instance that does not sample counts along
pub record IsCount (c : Counts) : Type 0 where
  pub within : IsWithinPeriod c.period c.left
  pub plain : c.along ≡ true → c.period ≡ 0

-- an instance that was never hit, with a whole period before it
abbrev pub fresh_counts : ℕ → Counts
fresh_counts period = record { count = 0; period = period; left = period; stamp = 0; along = false }

-- the count where the total has come to a number
abbrev pub count_at : ℕ → Counts → ℕ
count_at total c = c.count + (if c.along then total - c.stamp else 0)

-- from a total on the instance counts along, or no longer
abbrev pub followed : ℕ → (along : Bool) → Counts → Counts
followed total along c = record c { count = count_at total c; stamp = total; along = along }

-- the count from 0 on again, where the total has come to a number
abbrev pub restarted : ℕ → Counts → Counts
restarted total c = record c { count = 0; stamp = total }

-- the instance after a number of further occurrences
abbrev pub counts_after : Counts → ℕ → Counts
counts_after c n = record c { count = c.count + n; left = left_after n c.period c.left }

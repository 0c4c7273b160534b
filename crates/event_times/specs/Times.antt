-- inner
-- The times of one event instance, after total_time_enabled, total_time_running and perf_event_update_time of
-- kernel/events/core.c. The stamp is the tstamp of those: the clock up to which the two sums are kept.
use Rattle.std.specs.Prelude.{ℕ, ◌+◌, ◌-◌, Bool, false, if◌then◌else◌}

-- How long an instance was ready, and how long it was on, up to its stamp; and whether it is ready and on since then.
pub record Times : Type 0 where
  pub enabled : ℕ
  pub running : ℕ
  pub stamp : ℕ
  pub ready : Bool
  pub on : Bool

-- the times of an instance that is just born
abbrev pub fresh_times : Times
fresh_times = record { enabled = 0; running = 0; stamp = 0; ready = false; on = false }

-- the two sums at a clock: the stretch since the stamp is enabled time of one that is ready, running time of one that
-- is on
abbrev pub enabled_at : ℕ → Times → ℕ
enabled_at clock t = t.enabled + (if t.ready then clock - t.stamp else 0)

abbrev pub running_at : ℕ → Times → ℕ
running_at clock t = t.running + (if t.on then clock - t.stamp else 0)

-- from a clock on an instance is ready and on, or not
abbrev pub turned : ℕ → (ready on : Bool) → Times → Times
turned clock ready on t = record { enabled = enabled_at clock t; running = running_at clock t; stamp = clock; ready = ready; on = on }

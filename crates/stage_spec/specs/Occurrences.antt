-- believed
-- Occurrences of an event that samples, one by one. After perf_swevent_set_period and __perf_event_overflow of
-- kernel/events/core.c, where the remainder starts anew at the present period too; that occurrences are taken one by
-- one is this project's own profile.
use Rattle.std.specs.Prelude.{ℕ, zero, suc, ◌+◌, ◌-◌, ◌==◌, if◌then◌else◌}

-- what one occurrence leaves of the remainder: it falls by one, and at 0 it becomes the period; without a period it
-- stays 0
abbrev pub left_after_one : (period left : ℕ) → ℕ
left_after_one period left = if left - 1 == 0 then period else left - 1

-- how many overflows one occurrence gives: one where the remainder falls to 0, and none without a period
abbrev pub overflows_of_one : (period left : ℕ) → ℕ
overflows_of_one period left = if period == 0 then 0 else if left - 1 == 0 then 1 else 0

-- what a number of occurrences, taken one by one, leave of the remainder
unfoldable pub left_after : (occurrences period left : ℕ) → ℕ
left_after zero period left = left
left_after (suc n) period left = left_after n period (left_after_one period left)

-- how many overflows a number of occurrences, taken one by one, give
unfoldable pub overflows : (occurrences period left : ℕ) → ℕ
overflows zero period left = 0
overflows (suc n) period left = overflows_of_one period left + overflows n period (left_after_one period left)

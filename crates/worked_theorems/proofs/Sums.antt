-- Counts and times of one instance, worked out by hand.
use Rattle.std.{specs.Prelude.{◌≡◌, ℕ, ◌+◌, Bool, true, false}, proofs.Common.{refl}}
use Rattle.stage_spec.specs.Occurrences.{left_after, overflows}
use Rattle.event_counts.specs.Counts.{Counts, fresh_counts, count_at, followed, restarted, counts_after}
use Rattle.event_times.specs.Times.{Times, fresh_times, enabled_at, running_at, turned}

-- How often a period is over in each of two bursts, what is left of it then, and the count.
abbrev bursts : (period first next : ℕ) → ℕ × ℕ × ℕ × ℕ
bursts period first next =
    let start : Counts = fresh_counts period in
    let between : Counts = counts_after start first in
    let last : Counts = counts_after between next in
    (overflows first start.period start.left, overflows next between.period between.left, last.left, count_at 9 last)

pub two_periods_and_one : bursts 100 250 50 ≡ (2, 1, 100, 300)
unfolding left_after overflows
two_periods_and_one = refl

pub a_period_at_its_end : bursts 30 29 1 ≡ (0, 1, 30, 30)
unfolding left_after overflows
a_period_at_its_end = refl

pub each_occurrence_is_a_period : bursts 1 3 1 ≡ (3, 1, 1, 4)
unfolding left_after overflows
each_occurrence_is_a_period = refl

pub without_a_period : bursts 0 5 7 ≡ (0, 0, 0, 12)
unfolding left_after overflows
without_a_period = refl

-- An instance follows a total from 5 to 12, is reset there, and follows it to 23.
abbrev at_twelve : Counts
at_twelve = followed (0 + 5) true (fresh_counts 0)

abbrev at_the_end : Counts
at_the_end = followed (0 + 5 + 7 + 11) false (restarted (0 + 5 + 7) at_twelve)

pub follows_before_the_reset : count_at (0 + 5 + 7) at_twelve ≡ 7
follows_before_the_reset = refl

pub follows_from_the_reset_on : count_at 99 at_the_end ≡ 11
follows_from_the_reset_on = refl

-- The times at clock 20 of an instance that is ready and on from clock 5 to 12, and turns to this state then.
abbrev turned_twice : (ready on : Bool) → Times
turned_twice ready on = turned 12 ready on (turned 5 true true fresh_times)

abbrev times : (ready on : Bool) → ℕ × ℕ
times ready on = (enabled_at 20 (turned_twice ready on), running_at 20 (turned_twice ready on))

pub it_stays_on : times true true ≡ (15, 15)
it_stays_on = refl

pub it_is_ready_and_not_on : times true false ≡ (15, 7)
it_is_ready_and_not_on = refl

pub it_is_neither : times false false ≡ (7, 7)
it_is_neither = refl

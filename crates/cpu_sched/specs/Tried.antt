-- inner
-- For how many events a rescheduling tries counters. After group_sched_in and merge_sched_in of kernel/events/core.c;
-- that all events of a group are tried together is this project's own profile.
use Rattle.std.specs.{Prelude.{ℕ, length}, List.{sum_by}}
use Rattle.perf_base.specs.declared.{numbers.CpuNo.{CpuNo}, standing.Standing.{Standing}}
use Rattle.perf_base.specs.declared.standing.Cause.TheVariants as cause
use Rattle.perf_base.specs.declared.standing.Standing.TheVariants as standing
use Rattle.stage_spec.specs.{Effective.{counted_members}, Hardware.{Hardware}, Stage.{Stage, Group}, Verdict.{verdicts}}

-- of a group's events, those that counters are tried for: none where the group is not eligible or a rule refuses it,
-- and else all
abbrev pub tries_for : Standing → ℕ → ℕ
tries_for standing.Out events = 0
tries_for standing.On events = events
tries_for (standing.Refused (cause.Rule rule)) events = 0
tries_for (standing.Refused (cause.Hall slots)) events = events

-- the events of a group are its ready hardware members; a wholly software group has none
abbrev pub tries : Standing → Group → ℕ
tries s g = tries_for s (length (counted_members g))

-- so all groups of a processor, by the definitions' verdicts
abbrev pub tried : Hardware → Stage → CpuNo → ℕ
tried hw s cpu = sum_by (λ j. tries j.standing j.group) (verdicts hw s cpu)

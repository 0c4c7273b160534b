-- believed
-- Settling: a pinned group that is refused goes to error, as PERF_EVENT_STATE_ERROR in merge_sched_in of
-- kernel/events/core.c. That it keeps the cause is this project's own profile.
use Rattle.std.specs.Prelude.{◌≡◌, ◌<◌, true, false, List, [], ◌∷◌, ◌++◌, length, map, filter, take, drop, Option, Some, None}
use Rattle.perf_base.specs.{declared.{numbers.{CpuNo.{CpuNo}, TaskNo.{TaskNo}}, standing.Standing.{Standing}}, Standings.{stands_on}}
use Rattle.perf_base.specs.declared.standing.Context.TheVariants as context
use Rattle.perf_base.specs.declared.standing.Own.TheVariants as own
use Rattle.perf_base.specs.declared.standing.Standing.TheVariants as standing
use Rattle.stage_spec.specs.{Hardware.{Hardware}, Stage.{Stage, Group, Lists, lists_of, task_on, change_context, all_cpus}}
use Rattle.stage_spec.specs.Verdict.{Judged, is_eligible, judge, judge_pass, judge_passes, passes, verdicts}

-- a refused group has its leader in error, with the cause
abbrev pub failed : Standing → Group → Group
failed standing.Out g = g
failed standing.On g = g
failed (standing.Refused cause) g = record g { leader = record g.leader { own = own.Error cause } }

-- the groups of a pinned pass, each eligible one that is refused in error
unfoldable pub settle_pass : Hardware → CpuNo → (before within : List Judged) → List Group → List Group
settle_pass hw cpu before within [] = []
settle_pass hw cpu before within (g ∷ groups) = elim (is_eligible hw cpu g) [
  | true ↦ failed (judge hw before within g) g
      ∷ settle_pass hw cpu before (within ++ record { group = g; standing = judge hw before within g } ∷ []) groups
  | false ↦ g ∷ settle_pass hw cpu before within groups
]

abbrev pub settle_lists : Hardware → CpuNo → List Judged → Lists → Lists
settle_lists hw cpu before l = record l { pinned = settle_pass hw cpu before [] l.pinned }

-- so in a processor's own pinned pass, and then in its task's
abbrev pub own_verdicts : Hardware → Stage → CpuNo → List Judged
own_verdicts hw s cpu = judge_pass hw [] [] (filter (is_eligible hw cpu) (lists_of s (context.Processor cpu)).pinned)

abbrev pub settle_task : Hardware → CpuNo → List Judged → Option TaskNo → Stage → Stage
settle_task hw cpu before None s = s
settle_task hw cpu before (Some task) s = change_context (context.Task task) (settle_lists hw cpu before) s

-- Each pinned group of a processor that is refused goes to error with its cause. Nothing else changes.
unfoldable pub settle : Hardware → CpuNo → Stage → Stage
settle hw cpu s = settle_task hw cpu (own_verdicts hw s cpu) (task_on s cpu) (change_context (context.Processor cpu) (settle_lists hw cpu []) s)

-- so on some processors, one after the other, and on all
unfoldable pub settle_each : Hardware → List CpuNo → Stage → Stage
settle_each hw [] s = s
settle_each hw (cpu ∷ cpus) s = settle_each hw cpus (settle hw cpu s)

unfoldable pub settle_all : Hardware → Stage → Stage
settle_all hw s = settle_each hw (all_cpus s) s

-- a processor is settled where settling it changes nothing
abbrev pub IsSettled : Hardware → CpuNo → Stage → Type 0
IsSettled hw cpu s = settle hw cpu s ≡ s

-- the verdicts of the first two passes, and of the others
abbrev pub pinned_verdicts : Hardware → Stage → CpuNo → List Judged
pinned_verdicts hw s cpu = judge_passes hw [] (map (filter (is_eligible hw cpu)) (take 2 (passes s cpu)))

abbrev pub flexible_verdicts : Hardware → Stage → CpuNo → List Judged
flexible_verdicts hw s cpu = drop (length (pinned_verdicts hw s cpu)) (verdicts hw s cpu)

-- The law of settling: settling a settled processor changes nothing.
abbrev pub SettleLaw : Type 0
SettleLaw = (hw : Hardware) (cpu : CpuNo) (s : Stage) → cpu.0 < 8 → IsSettled hw cpu (settle hw cpu s)

-- Settling leaves the verdict of each group that is still eligible: all but the pinned ones that were refused.
abbrev pub SettledVerdictsLaw : Type 0
SettledVerdictsLaw = (hw : Hardware) (cpu : CpuNo) (s : Stage) → cpu.0 < 8
    → verdicts hw (settle hw cpu s) cpu ≡ filter (λ j. stands_on j.standing) (pinned_verdicts hw s cpu) ++ flexible_verdicts hw s cpu

-- Verdicts depend on the eligible groups in pass order alone.
abbrev pub VerdictsLaw : Type 0
VerdictsLaw = (hw : Hardware) (cpu : CpuNo) (s t : Stage)
    → map (filter (is_eligible hw cpu)) (passes s cpu) ≡ map (filter (is_eligible hw cpu)) (passes t cpu) → verdicts hw s cpu ≡ verdicts hw t cpu

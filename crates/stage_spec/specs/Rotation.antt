-- believed
-- What a tick does, after perf_rotate_context of kernel/events/core.c, which rotates each context by itself too. Which
-- group moves is this project's own profile: the first eligible hardware group of the list, on or not.
use Rattle.std.specs.{Prelude.{Bool, true, false, not, ◌&&◌, List, [], ◌∷◌, ◌++◌, Option, Some, None}, List.{list_any}}
use Rattle.perf_base.specs.{declared.numbers.{CpuNo.{CpuNo}, TaskNo.{TaskNo}}, Standings.{stands_on}}
use Rattle.perf_base.specs.declared.standing.Context.TheVariants as context
use Rattle.stage_spec.specs.{Hardware.{Hardware}, Stage.{Stage, Group, Lists, task_on, change_context}, Effective.{is_wholly_software}}
use Rattle.stage_spec.specs.Verdict.{Judged, is_eligible, standing_among, verdicts}

-- the first group that passes a test goes last
abbrev pub first_goes_last : (Group → Bool) → List Group → List Group
first_goes_last test [] = []
first_goes_last test (g ∷ groups) = elim (test g) [ true ↦ groups ++ g ∷ [] | false ↦ g ∷ first_goes_last test groups ]

-- whether a group waits, by some verdicts: it is eligible and not on; and whether it takes turns: it is eligible and a
-- hardware group
abbrev pub waits : Hardware → CpuNo → List Judged → Group → Bool
waits hw cpu judged g = is_eligible hw cpu g && not (stands_on (standing_among judged g))

abbrev pub takes_turns : Hardware → CpuNo → Group → Bool
takes_turns hw cpu g = is_eligible hw cpu g && not (is_wholly_software g)

-- Where some flexible group waits, the first flexible group that takes turns goes last.
abbrev pub turned : Hardware → CpuNo → List Judged → List Group → List Group
turned hw cpu judged groups = elim (list_any (waits hw cpu judged) groups) [
  | true ↦ first_goes_last (takes_turns hw cpu) groups
  | false ↦ groups
]

abbrev pub turn_lists : Hardware → CpuNo → List Judged → Lists → Lists
turn_lists hw cpu judged l = record l { flexible = turned hw cpu judged l.flexible }

-- the task's context, where there is a task
abbrev pub turn_task : Hardware → CpuNo → List Judged → Option TaskNo → Stage → Stage
turn_task hw cpu judged None s = s
turn_task hw cpu judged (Some task) s = change_context (context.Task task) (turn_lists hw cpu judged) s

-- so in both contexts of the processor, by the verdicts before the tick
unfoldable pub rotated : Hardware → CpuNo → Stage → Stage
rotated hw cpu s = turn_task hw cpu (verdicts hw s cpu) (task_on s cpu) (change_context (context.Processor cpu) (turn_lists hw cpu (verdicts hw s cpu)) s)

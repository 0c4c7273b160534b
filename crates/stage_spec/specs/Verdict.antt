-- believed
-- Which groups of a processor are on, and why the others are not. After group_can_go_on, ctx_sched_in and
-- merge_sched_in of kernel/events/core.c; whom a refusal names is this project's own profile.
use Rattle.std.specs.Prelude.{ℕ, ◌==◌, Bool, true, false, not, ◌&&◌, List, [], ◌∷◌, ◌++◌, map, filter, find, flat_map, Option, Some, None, option_map}
use Rattle.std.specs.List.{list_all}
use Rattle.perf_base.specs.declared.{numbers.{CpuNo.{CpuNo}, EventNo.{EventNo}, TaskNo.{TaskNo}}, standing.{Context.{Context}, Standing.{Standing}}}
use Rattle.perf_base.specs.Standings.{stands_on, stands_refused}
use Rattle.perf_base.specs.declared.standing.Context.TheVariants as context
use Rattle.perf_base.specs.declared.standing.Cause.TheVariants as cause
use Rattle.perf_base.specs.declared.standing.Standing.TheVariants as standing
use Rattle.stage_spec.specs.{declared.instance.Instance.{Instance}, Hardware.{Hardware, mask_of, is_counted_on}, Places.{may_count_on}}
use Rattle.stage_spec.specs.Stage.{Stage, Group, members_of, members, Lists, lists_of, groups_in, no_groups, task_on}
use Rattle.stage_spec.specs.Effective.{is_ready, name_of, is_wholly_software, is_exclusive_group, counted_members}
use Rattle.stage_spec.specs.{Rules.{Ruling, GoesOn, Refuses, AsksCounters, ruling_of}, Fits.{fits}, Tight.{masks_of, tight_set, shortest_unfit}}

-- A group of a context that is on a processor may go on there where its leader is ready, its place is any processor or
-- that one, and its hardware members are of that processor's PMU.
abbrev pub is_eligible : Hardware → CpuNo → Group → Bool
is_eligible hw cpu g =
    is_ready g.leader.own && may_count_on cpu g.leader.attr.cpu && list_all (λ i. is_counted_on hw cpu i.attr.kind) (members_of g)

-- the groups of the task on a processor; an idle processor has none
abbrev pub task_lists : Stage → Option TaskNo → Lists
task_lists s None = no_groups
task_lists s (Some task) = lists_of s (context.Task task)

-- the four passes of a processor: its own pinned groups and then its task's, its own flexible groups and then its
-- task's
abbrev pub passes : Stage → CpuNo → List (List Group)
passes s cpu =
    (lists_of s (context.Processor cpu)).pinned ∷ (task_lists s (task_on s cpu)).pinned
    ∷ (lists_of s (context.Processor cpu)).flexible ∷ (task_lists s (task_on s cpu)).flexible ∷ []

-- a group and what was said of it
pub record Judged : Type 0 where
  pub group : Group
  pub standing : Standing

-- the groups that are on, the name of the first that passes a test, and the first that was refused
abbrev pub groups_on : List Judged → List Group
groups_on judged = map (λ j. j.group) (filter (λ j. stands_on j.standing) judged)

abbrev pub first_named : (Group → Bool) → List Group → Option EventNo
first_named test groups = option_map name_of (find test groups)

abbrev pub first_refused : List Judged → Option EventNo
first_refused judged = option_map (λ j. name_of j.group) (find (λ j. stands_refused j.standing) judged)

-- events with the counters that can count them
abbrev pub with_masks : Hardware → List Instance → List (EventNo × ℕ)
with_masks hw instances = map (λ i. (i.event, mask_of hw i.attr.kind)) instances

-- A group goes on where its events fit together with those that are on; else the refusal has the tight set of the
-- shortest beginning of that list that does not fit.
abbrev pub by_counters : List (EventNo × ℕ) → Standing
by_counters events = elim (fits (masks_of events)) [
  | true ↦ standing.On
  | false ↦ standing.Refused (cause.Hall (map (λ event. event.0) (tight_set (shortest_unfit events))))
]

-- The rules decide first, and else the counters do.
abbrev pub by_ruling : Ruling → List (EventNo × ℕ) → Standing
by_ruling GoesOn events = standing.On
by_ruling (Refuses rule) events = standing.Refused (cause.Rule rule)
by_ruling AsksCounters events = by_counters events

-- what the rules say of a group beside those that are on, after those of its own pass
abbrev pub ruling_beside : (on : List Group) → (within : List Judged) → Group → Ruling
ruling_beside on within g =
    ruling_of (is_wholly_software g) (is_exclusive_group g) (first_named is_exclusive_group on) (first_named (λ h. not (is_wholly_software h)) on) (first_refused within)

-- the events that need counters where a group goes on beside those that are on, each with the counters that count it
abbrev pub events_beside : Hardware → (on : List Group) → Group → List (EventNo × ℕ)
events_beside hw on g = with_masks hw (flat_map counted_members on ++ counted_members g)

-- What is said of a group after those of earlier passes and those within its own pass.
unfoldable pub judge : Hardware → (before within : List Judged) → Group → Standing
judge hw before within g = by_ruling (ruling_beside (groups_on (before ++ within)) within g) (events_beside hw (groups_on (before ++ within)) g)

-- the groups of one pass, judged one after the other
unfoldable pub judge_pass : Hardware → (before within : List Judged) → List Group → List Judged
judge_pass hw before within [] = within
judge_pass hw before within (g ∷ groups) = judge_pass hw before (within ++ record { group = g; standing = judge hw before within g } ∷ []) groups

-- the groups of some passes, judged one pass after the other
unfoldable pub judge_passes : Hardware → List Judged → List (List Group) → List Judged
judge_passes hw before [] = before
judge_passes hw before (pass ∷ rest) = judge_passes hw (before ++ judge_pass hw before [] pass) rest

-- the eligible groups of a processor in pass order, each with its verdict
unfoldable pub verdicts : Hardware → Stage → CpuNo → List Judged
verdicts hw s cpu = judge_passes hw [] (map (filter (is_eligible hw cpu)) (passes s cpu))

-- where a group stands on a processor: its verdict, or out where it is not eligible
abbrev pub standing_among : List Judged → Group → Standing
standing_among [] g = standing.Out
standing_among (j ∷ judged) g = elim (j.group.leader.id == g.leader.id) [ true ↦ j.standing | false ↦ standing_among judged g ]

abbrev pub standing_of : Hardware → Stage → CpuNo → Group → Standing
standing_of hw s cpu g = standing_among (verdicts hw s cpu) g

-- the instances that are on, in pass order: the ready members of the groups on
abbrev pub on_instances : Hardware → Stage → CpuNo → List Instance
on_instances hw s cpu = flat_map (λ g. filter (λ i. is_ready i.own) (members_of g)) (groups_on (verdicts hw s cpu))

-- the instances of a context, and those that a processor reaches: its own and those of the task on it
abbrev pub instances_in : Stage → Context → List Instance
instances_in s c = members (groups_in (lists_of s c))

abbrev pub reached : Stage → CpuNo → List Instance
reached s cpu = members (flat_map (λ pass. pass) (passes s cpu))

-- believed
-- The stage between two lines: the task on each processor, which tasks there are, and the groups of each context with
-- the own states of their events. It holds no count, no time and no counter. After struct perf_event_context and
-- struct perf_event of kernel/events/core.c.
use Rattle.std.specs.Prelude.{ℕ, ◌+◌, ◌==◌, nat_lt, Bool, true, false, not, ◌&&◌, List, [], ◌∷◌, ◌++◌, map, length, replicate, find, count_by, flat_map, Option, Some, None, slice_index_or, slice_set, if◌then◌else◌}
use Rattle.std.specs.List.{list_any}
use Rattle.perf_base.specs.declared.{numbers.{CpuNo.{CpuNo}, EventNo.{EventNo}, RingNo.{RingNo}, TaskNo.{TaskNo}}, standing.Context.{Context}}
use Rattle.perf_base.specs.declared.standing.Context.TheVariants as context
use Rattle.stage_spec.specs.{declared.instance.{Instance.{Instance}, TaskState.{TaskState}, TaskStatus.{TaskStatus}}, Numbers.{numbers_below}}
use Rattle.stage_spec.specs.declared.instance.TaskState.TheVariants as state

-- a group: its leader, and its siblings in the order in which they joined
pub record Group : Type 0 where
  pub leader : Instance
  pub siblings : List Instance

-- its members, the leader first; how many they are; and a group of one
abbrev pub members_of : Group → List Instance
members_of g = g.leader ∷ g.siblings

abbrev pub group_size : Group → ℕ
group_size g = length (members_of g)

abbrev pub alone : Instance → Group
alone i = record { leader = i; siblings = [] }

-- the pinned and the flexible groups of a context, in their order
pub record Lists : Type 0 where
  pub pinned : List Group
  pub flexible : List Group

-- The task on each processor; of each number, where its task stands; the groups of the eight processors and then of
-- each task; the slots that were opened, the rings that were mapped, and the id of the next instance.
pub record Stage : Type 0 where
  pub running : List (Option TaskNo)
  pub tasks : List TaskStatus
  pub contexts : List Lists
  pub used : List EventNo
  pub mapped : List RingNo
  pub next_id : ℕ

abbrev pub no_groups : Lists
no_groups = record { pinned = []; flexible = [] }

-- a task that there never was
abbrev pub unknown_task : TaskStatus
unknown_task = record { state = state.Unknown; last = None }

-- a task that no processor has switched to yet
abbrev pub fresh_task : TaskStatus
fresh_task = record { state = state.Live; last = None }

-- the stage before the first line, with this number of processors and these tasks
unfoldable pub first_stage : ℕ → List TaskNo → Stage
first_stage cpus declared = record {
  running = replicate cpus None;
  tasks = map (λ n. if list_any (λ task. task.0 == n) declared then fresh_task else unknown_task) (numbers_below 64);
  contexts = replicate 72 no_groups;
  used = [];
  mapped = [];
  next_id = 1;
}

-- where a context stands among all contexts; a number of no processor has no place there, and no groups
abbrev pub place_of : Context → ℕ
place_of (context.Processor cpu) = if nat_lt cpu.0 8 then cpu.0 else 72
place_of (context.Task task) = 8 + task.0

-- the groups of one context
abbrev pub lists_of : Stage → Context → Lists
lists_of s c = slice_index_or s.contexts (place_of c) no_groups

-- the groups of a context, and of all contexts; their instances
abbrev pub groups_in : Lists → List Group
groups_in l = l.pinned ++ l.flexible

abbrev pub all_groups : Stage → List Group
all_groups s = flat_map groups_in s.contexts

abbrev pub members : List Group → List Instance
members groups = flat_map members_of groups

abbrev pub all_instances : Stage → List Instance
all_instances s = members (all_groups s)

-- whether an instance is of an event's family, and whether it is the original
abbrev pub is_of_family : EventNo → Instance → Bool
is_of_family e i = i.event.0 == e.0

abbrev pub is_original : EventNo → Instance → Bool
is_original e i = is_of_family e i && not i.copy

abbrev pub is_copy : Instance → Bool
is_copy i = i.copy

-- the original in a slot, and the group that it is in; neither where the slot is not open
abbrev pub original_of : Stage → EventNo → Option Instance
original_of s e = find (is_original e) (all_instances s)

abbrev pub group_of : Stage → EventNo → Option Group
group_of s e = find (λ g. list_any (is_original e) (members_of g)) (all_groups s)

-- whether a slot is open
abbrev pub is_open : Stage → EventNo → Bool
is_open s e = list_any (is_original e) (all_instances s)

-- how many copies there are
abbrev pub live_copies : Stage → ℕ
live_copies s = count_by is_copy (all_instances s)

-- the processors, and the task on one; none while it is idle
abbrev pub all_cpus : Stage → List CpuNo
all_cpus s = map (λ n. record { 0 = n }) (numbers_below (length s.running))

abbrev pub task_on : Stage → CpuNo → Option TaskNo
task_on s cpu = slice_index_or s.running cpu.0 None

-- whether a task is the one on a processor
abbrev pub is_task : Option TaskNo → TaskNo → Bool
is_task None task = false
is_task (Some other) task = other.0 == task.0

abbrev pub is_on_cpu : Stage → TaskNo → CpuNo → Bool
is_on_cpu s task cpu = is_task (task_on s cpu) task

-- the processor that a task is on
abbrev pub cpu_of : Stage → TaskNo → Option CpuNo
cpu_of s task = find (is_on_cpu s task) (all_cpus s)

-- where a task stands, and whether it is there and has not exited
abbrev pub status_of : Stage → TaskNo → TaskStatus
status_of s task = slice_index_or s.tasks task.0 unknown_task

abbrev pub is_live : TaskState → Bool
is_live state.Unknown = false
is_live state.Live = true
is_live state.Exited = false

abbrev pub was_used : TaskState → Bool
was_used state.Unknown = false
was_used state.Live = true
was_used state.Exited = true

-- a group, the groups of a context and the stage, with a change of each instance
abbrev pub change_group : (Instance → Instance) → Group → Group
change_group f g = record { leader = f g.leader; siblings = map f g.siblings }

abbrev pub change_lists : (Instance → Instance) → Lists → Lists
change_lists f l = record { pinned = map (change_group f) l.pinned; flexible = map (change_group f) l.flexible }

abbrev pub change_each : (Instance → Instance) → Stage → Stage
change_each f s = record s { contexts = map (change_lists f) s.contexts }

-- the stage with a change of the groups of one context
abbrev pub change_context : Context → (Lists → Lists) → Stage → Stage
change_context c f s = record s { contexts = slice_set s.contexts (place_of c) (f (lists_of s c)) }

-- whether no task runs, and the stage with another one running
abbrev pub is_idle : Option TaskNo → Bool
is_idle None = true
is_idle (Some task) = false

abbrev pub set_running : CpuNo → Option TaskNo → Stage → Stage
set_running cpu to s = record s { running = slice_set s.running cpu.0 to }

-- the stage with a task's state changed
abbrev pub set_status : TaskNo → TaskStatus → Stage → Stage
set_status task status s = record s { tasks = slice_set s.tasks task.0 status }

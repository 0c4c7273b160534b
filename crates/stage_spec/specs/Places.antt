-- believed
-- Where an event counts: its task and its processor. After pid and cpu of perf_event_open(2).
use Rattle.std.specs.Prelude.{◌==◌, Bool, true, false}
use Rattle.perf_base.specs.declared.{numbers.CpuNo.{CpuNo}, attr.{TaskSel.{TaskSel}, CpuSel.{CpuSel}}}
use Rattle.perf_base.specs.declared.attr.TaskSel.TheVariants as tasks
use Rattle.perf_base.specs.declared.attr.CpuSel.TheVariants as cpus

-- whether an event counts all tasks, as pid -1 does, and whether it counts on any processor, as cpu -1 does
abbrev pub is_all_tasks : TaskSel → Bool
is_all_tasks tasks.All = true
is_all_tasks (tasks.One task) = false

abbrev pub is_any_cpu : CpuSel → Bool
is_any_cpu cpus.Any = true
is_any_cpu (cpus.One cpu) = false

-- whether two events name the same task, and the same processor
abbrev pub is_same_task : TaskSel → TaskSel → Bool
is_same_task tasks.All tasks.All = true
is_same_task tasks.All (tasks.One task) = false
is_same_task (tasks.One task) tasks.All = false
is_same_task (tasks.One task) (tasks.One other) = task.0 == other.0

abbrev pub is_same_cpu : CpuSel → CpuSel → Bool
is_same_cpu cpus.Any cpus.Any = true
is_same_cpu cpus.Any (cpus.One cpu) = false
is_same_cpu (cpus.One cpu) cpus.Any = false
is_same_cpu (cpus.One cpu) (cpus.One other) = cpu.0 == other.0

-- whether an event's place is any processor, or this one
abbrev pub may_count_on : CpuNo → CpuSel → Bool
may_count_on cpu cpus.Any = true
may_count_on cpu (cpus.One other) = other.0 == cpu.0

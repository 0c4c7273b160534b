-- believed
-- What a switch does, after perf_event_task_sched_out and perf_event_task_sched_in of kernel/events/core.c. Its
-- refusals are this project's own profile.
use Rattle.std.specs.Prelude.{◌==◌, Bool, true, false, not, [], ◌∷◌, Option, Some, None}
use Rattle.perf_base.specs.declared.{numbers.{CpuNo.{CpuNo}, TaskNo.{TaskNo}}, reasons.Reason.{Reason}}
use Rattle.perf_base.specs.declared.reasons.Reason.TheVariants as reason
use Rattle.stage_spec.specs.Stage.{Stage, task_on, cpu_of, status_of, is_live, is_task, is_idle, set_running, set_status}
use Rattle.stage_spec.specs.Refusals.{first_of, holds_of}

-- whether what is to run already runs there
abbrev pub is_running : Option TaskNo → Option TaskNo → Bool
is_running now None = is_idle now
is_running now (Some task) = is_task now task

-- a task that is not there or has exited can't run, nor one that is on another processor
abbrev pub switch_refusal : Stage → CpuNo → Option TaskNo → Option Reason
switch_refusal s cpu None = None
switch_refusal s cpu (Some task) = first_of ((reason.NoTask, not (is_live (status_of s task).state))
    ∷ (reason.Busy, holds_of (λ other. not (other.0 == cpu.0)) (cpu_of s task)) ∷ [])

-- the task, or none, is on the processor, which is then the last one that switched to it
abbrev pub put_on : CpuNo → Option TaskNo → Stage → Stage
put_on cpu None s = set_running cpu None s
put_on cpu (Some task) s = set_status task (record (status_of s task) { last = Some cpu }) (set_running cpu (Some task) s)

-- a switch to what already runs changes nothing
unfoldable pub switched : CpuNo → Option TaskNo → Stage → Stage
switched cpu to s = elim (is_running (task_on s cpu) to) [ true ↦ s | false ↦ put_on cpu to s ]

-- the new task was last switched to by another processor
abbrev pub is_migration : Stage → CpuNo → Option TaskNo → Bool
is_migration s cpu None = false
is_migration s cpu (Some task) = holds_of (λ last. not (last.0 == cpu.0)) (status_of s task).last

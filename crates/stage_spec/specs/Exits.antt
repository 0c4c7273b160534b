-- believed
-- What an exit does, after perf_event_exit_task of kernel/events/core.c, after which the task's own events can be read
-- too. That ENABLE and DISABLE still change their states then, and that an exit is no context switch, is this project's
-- own profile.
use Rattle.std.specs.Prelude.{[], ◌∷◌, Option, Some, None}
use Rattle.perf_base.specs.declared.{numbers.{CpuNo.{CpuNo}, TaskNo.{TaskNo}}, reasons.Reason.{Reason}}
use Rattle.perf_base.specs.declared.standing.Context.TheVariants as context
use Rattle.perf_base.specs.declared.reasons.Reason.TheVariants as reason
use Rattle.stage_spec.specs.{Stage.{Stage, task_on, is_idle, set_running, status_of, set_status, change_context, is_copy}, Refusals.{first_of}}
use Rattle.stage_spec.specs.Closing.{without}
use Rattle.stage_spec.specs.declared.instance.TaskState.TheVariants as state

-- no task is on
abbrev pub exit_refusal : Stage → CpuNo → Option Reason
exit_refusal s cpu = first_of ((reason.Idle, is_idle (task_on s cpu)) ∷ [])

-- the task's copies go, it has exited, and its processor is idle
abbrev pub task_exited : CpuNo → TaskNo → Stage → Stage
task_exited cpu task s = set_running cpu None (set_status task (record (status_of s task) { state = state.Exited }) (change_context (context.Task task) (without is_copy) s))

abbrev pub exited_by : CpuNo → Option TaskNo → Stage → Stage
exited_by cpu None s = s
exited_by cpu (Some task) s = task_exited cpu task s

unfoldable pub exited : CpuNo → Stage → Stage
exited cpu s = exited_by cpu (task_on s cpu) s

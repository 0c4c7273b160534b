-- believed
-- Which context an event stands in. After pid and cpu of perf_event_open(2), and find_get_context of
-- kernel/events/core.c.
use Rattle.perf_base.specs.declared.{attr.{Attr.{Attr}, TaskSel.{TaskSel}, CpuSel.{CpuSel}}, standing.Context.{Context}}
use Rattle.perf_base.specs.declared.attr.TaskSel.TheVariants as tasks
use Rattle.perf_base.specs.declared.attr.CpuSel.TheVariants as cpus
use Rattle.perf_base.specs.declared.standing.Context.TheVariants as context

-- the context that an event counts: its task's, or its processor's
abbrev pub context_by : TaskSel → CpuSel → Context
context_by (tasks.One task) cpu = context.Task task
context_by tasks.All (cpus.One cpu) = context.Processor cpu
context_by tasks.All cpus.Any = context.Processor (record { 0 = 0 })

abbrev pub context_of : Attr → Context
context_of a = context_by a.task a.cpu

-- believed
-- What one step adds to one instance: occurrences, time enabled and time running. After perf_event_update_time,
-- perf_swevent_event and ctx_sched_in of kernel/events/core.c. A switch occurs before the events of the task that goes
-- are taken off, and a migration after those of the task that comes were put on, as in perf_event_task_sched_out and
-- perf_event_task_sched_in of include/linux/perf_event.h.
use Rattle.std.specs.Prelude.{ℕ, ◌+◌, ◌==◌, Bool, true, false, not, ◌&&◌, List, find, flat_map, Option, Some, None, slice_index, if◌then◌else◌}
use Rattle.perf_base.specs.declared.{numbers.{CpuNo.{CpuNo}, TaskNo.{TaskNo}}, attr.{Attr.{Attr}, Kind.{Kind}}, lines.{Mode.{Mode}, Work.{Work}}}
use Rattle.perf_base.specs.declared.{lines.CpuLine.{CpuLine}, reasons.Reason.{Reason}, reply.Sums.{Sums}}
use Rattle.perf_base.specs.declared.attr.Kind.TheVariants as kind
use Rattle.perf_base.specs.declared.lines.Mode.TheVariants as mode
use Rattle.perf_base.specs.declared.lines.CpuLine.TheVariants as cpu_line
use Rattle.stage_spec.specs.{declared.instance.Instance.{Instance}, Flags.{excludes_user, excludes_kernel}, Hardware.{Hardware}}
use Rattle.stage_spec.specs.{Stage.{Stage, task_on}, Effective.{ready_members}, Verdict.{passes, on_instances}}
use Rattle.stage_spec.specs.{Switching.{is_running, is_migration, switch_refusal}, History.{Step, CpuStep, ToolStep, SeenStep, stage_step}}

-- the instances whose context is on a processor and that are effectively ready, on or not, in pass order
abbrev pub ready_instances : Stage → CpuNo → List Instance
ready_instances s cpu = flat_map ready_members (flat_map (λ pass. pass) (passes s cpu))

-- whether an event leaves out a mode
abbrev pub excludes : Mode → Attr → Bool
excludes mode.User a = excludes_user a
excludes mode.Kernel a = excludes_kernel a

-- What an event that is on counts of a stretch of work: a clock counts its length, whatever the mode, and a hardware
-- kind its occurrences, but for those in a mode that the event leaves out.
abbrev pub counted_by : Work → Attr → Kind → ℕ
counted_by w a (kind.Hard n) = if excludes w.mode a then 0 else slice_index w.hits n
counted_by w a kind.ContextSwitches = 0
counted_by w a kind.CpuMigrations = 0
counted_by w a kind.TaskClock = w.length
counted_by w a kind.Dummy = 0

abbrev pub work_hits : Work → Instance → ℕ
work_hits w i = counted_by w i.attr i.attr.kind

-- switches and migrations occur in kernel mode
abbrev pub is_switches : Kind → Bool
is_switches (kind.Hard n) = false
is_switches kind.ContextSwitches = true
is_switches kind.CpuMigrations = false
is_switches kind.TaskClock = false
is_switches kind.Dummy = false

abbrev pub is_migrations : Kind → Bool
is_migrations (kind.Hard n) = false
is_migrations kind.ContextSwitches = false
is_migrations kind.CpuMigrations = true
is_migrations kind.TaskClock = false
is_migrations kind.Dummy = false

abbrev pub switch_hits : Instance → ℕ
switch_hits i = if is_switches i.attr.kind && not (excludes_kernel i.attr) then 1 else 0

abbrev pub migration_hits : Instance → ℕ
migration_hits i = if is_migrations i.attr.kind && not (excludes_kernel i.attr) then 1 else 0

-- what one instance of a list gives by some measure; 0 where it is not among them
abbrev pub measured : (Instance → ℕ) → Option Instance → ℕ
measured f None = 0
measured f (Some i) = f i

abbrev pub of_instance : (Instance → ℕ) → ℕ → List Instance → ℕ
of_instance f id instances = measured f (find (λ i. i.id == id) instances)

abbrev pub no_sums : Sums
no_sums = record { count = 0; enabled = 0; running = 0 }

-- of a stretch of work: its length to the time of each instance that is ready, and of each that is on
abbrev pub work_share : Hardware → Stage → CpuNo → Work → ℕ → Sums
work_share hw s cpu w id = record {
  count = of_instance (work_hits w) id (on_instances hw s cpu);
  enabled = of_instance (λ i. w.length) id (ready_instances s cpu);
  running = of_instance (λ i. w.length) id (on_instances hw s cpu);
}

-- Of a switch that changes what runs: one switch to those on before it, and, where it is a migration, one migration to
-- those on after it.
abbrev pub migration_share : Hardware → Bool → Stage → CpuNo → ℕ → ℕ
migration_share hw true after cpu id = of_instance migration_hits id (on_instances hw after cpu)
migration_share hw false after cpu id = 0

-- the stage after a switch
abbrev pub switched_stage : Hardware → Stage → CpuNo → Option TaskNo → Stage
switched_stage hw s cpu to = stage_step hw s (CpuStep cpu (cpu_line.Switch to))

abbrev pub switch_share : Hardware → Stage → CpuNo → Option TaskNo → ℕ → Sums
switch_share hw before cpu to id = record no_sums {
  count = of_instance switch_hits id (on_instances hw before cpu)
      + migration_share hw (is_migration before cpu to) (switched_stage hw before cpu to) cpu id;
}

-- a switch that is refused, or to what already runs there, adds nothing
abbrev pub changes_task : Option Reason → Bool → Bool
changes_task (Some r) same = false
changes_task None same = not same

abbrev pub cpu_share : Hardware → Stage → CpuNo → CpuLine → ℕ → Sums
cpu_share hw s cpu (cpu_line.Switch to) id = elim (changes_task (switch_refusal s cpu to) (is_running (task_on s cpu) to)) [
  | true ↦ switch_share hw s cpu to id
  | false ↦ no_sums
]
cpu_share hw s cpu (cpu_line.Work w) id = work_share hw s cpu w id
cpu_share hw s cpu cpu_line.Tick id = no_sums
cpu_share hw s cpu (cpu_line.Fork child) id = no_sums
cpu_share hw s cpu cpu_line.Exit id = no_sums

-- what a step adds to the instance of an id, at the stage before it
unfoldable pub share : Hardware → Stage → Step → ℕ → Sums
share hw s (CpuStep cpu line) id = cpu_share hw s cpu line id
share hw s (ToolStep line) id = no_sums
share hw s (SeenStep ring place) id = no_sums

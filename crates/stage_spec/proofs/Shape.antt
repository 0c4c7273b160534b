-- Each step keeps how many processors, tasks and contexts there are, and most leave the slots used, the rings and the
-- next id.
use Rattle.std.{specs.Prelude.{◌≡◌, Bool, true, false, List, length, map, Option, Some, None}, proofs.Common.{refl, sym, ◌∙◌}}
use Rattle.std.proofs.lemmas.List.{length-map, length-set, length-replicate}
use Rattle.perf_base.specs.declared.{numbers.{CpuNo.{CpuNo}, EventNo.{EventNo}, TaskNo.{TaskNo}}, attr.Attr.{Attr}, lines.CpuLine.{CpuLine}}
use Rattle.perf_base.specs.{declared.{lines.ToolLine.{ToolLine}, reasons.Reason.{Reason}, standing.Context.{Context}}, Contexts.{context_of}}
use Rattle.perf_base.specs.declared.lines.CpuLine.TheVariants as cpu_line
use Rattle.perf_base.specs.declared.lines.ToolLine.TheVariants as tool_line
use Rattle.perf_base.specs.declared.standing.Context.TheVariants as context
use Rattle.stage_spec.specs.{declared.instance.{Instance.{Instance}, TaskStatus.{TaskStatus}}, Hardware.{Hardware}}
use Rattle.stage_spec.specs.Stage.{Stage, alone, Lists, place_of, lists_of, change_context, task_on, is_of_family, status_of, set_running, set_status, fresh_task, first_stage}
use Rattle.stage_spec.specs.{Verdict.{task_lists}, Settle.{settle, settle_all}, Opening.{opened, placed, add_group, join_lists, new_original}}
use Rattle.stage_spec.specs.{Flags.{is_pinned}, Commands.{command_each, with_period}, Mapping.{mapped_to, output_to}, Closing.{without, closed}}
use Rattle.stage_spec.specs.{Rotation.{rotated}, Forks.{copied, forked}, Exits.{exited, exited_by}, Switching.{switched, put_on, is_running}}
use Rattle.stage_spec.specs.History.{Step, CpuStep, ToolStep, SeenStep, cpu_refusal, tool_refusal, cpu_changed, tool_changed, stage_step, unless_refused}
use Rattle.stage_spec.{specs.Limits.{Limits, IsMachine, HasShape}, proofs.ByContexts.{KeptByContexts, settle-by, settle_all-by, rotated-by}}

-- as many processors, tasks and contexts
pub record SameShape (s t : Stage) : Type 0 where
  pub running : length t.running ≡ length s.running
  pub tasks : length t.tasks ≡ length s.tasks
  pub contexts : length t.contexts ≡ length s.contexts

-- the same slots used, rings mapped and next id
pub record SameNumbers (s t : Stage) : Type 0 where
  pub used : t.used ≡ s.used
  pub mapped : t.mapped ≡ s.mapped
  pub ids : t.next_id ≡ s.next_id

pub SameShape-refl : (s : Stage) → SameShape s s
SameShape-refl s = record { running = refl; tasks = refl; contexts = refl }

pub SameShape-trans : (s t u : Stage) → SameShape s t → SameShape t u → SameShape s u
SameShape-trans s t u h k = record { running = k.running ∙ h.running; tasks = k.tasks ∙ h.tasks; contexts = k.contexts ∙ h.contexts }

pub SameNumbers-refl : (s : Stage) → SameNumbers s s
SameNumbers-refl s = record { used = refl; mapped = refl; ids = refl }

-- a change of contexts, of one task's place and of what runs
pub contexts-shape : (s : Stage) (f : Lists → Lists) → SameShape s (record s { contexts = map f s.contexts })
contexts-shape s f = record { running = refl; tasks = refl; contexts = length-map s.contexts f }

pub change_context-shape : (c : Context) (f : Lists → Lists) (s : Stage) → SameShape s (change_context c f s)
change_context-shape c f s = record { running = refl; tasks = refl; contexts = length-set s.contexts (place_of c) (f (lists_of s c)) }

set_status-shape : (task : TaskNo) (status : TaskStatus) (s : Stage) → SameShape s (set_status task status s)
set_status-shape task status s = record { running = refl; tasks = length-set s.tasks task.0 status; contexts = refl }

set_running-shape : (cpu : CpuNo) (to : Option TaskNo) (s : Stage) → SameShape s (set_running cpu to s)
set_running-shape cpu to s = record { running = length-set s.running cpu.0 to; tasks = refl; contexts = refl }

-- settling and a tick change contexts alone
by_shape : (s : Stage) → KeptByContexts (SameShape s)
by_shape s c f t h = SameShape-trans s t (change_context c f t) h (change_context-shape c f t)

by_numbers : (s : Stage) → KeptByContexts (SameNumbers s)
by_numbers s c f t h = record { used = h.used; mapped = h.mapped; ids = h.ids }

pub settle-shape : (hw : Hardware) (cpu : CpuNo) (s : Stage) → SameShape s (settle hw cpu s)
settle-shape hw cpu s = settle-by (SameShape s) (by_shape s) hw cpu s (SameShape-refl s)

pub settle_all-shape : (hw : Hardware) (s : Stage) → SameShape s (settle_all hw s)
settle_all-shape hw s = settle_all-by (SameShape s) (by_shape s) hw s (SameShape-refl s)

pub settle_all-numbers : (hw : Hardware) (s : Stage) → SameNumbers s (settle_all hw s)
settle_all-numbers hw s = settle_all-by (SameNumbers s) (by_numbers s) hw s (SameNumbers-refl s)

pub rotated-shape : (hw : Hardware) (cpu : CpuNo) (s : Stage) → SameShape s (rotated hw cpu s)
rotated-shape hw cpu s = rotated-by (SameShape s) (by_shape s) hw cpu s (SameShape-refl s)

pub rotated-numbers : (hw : Hardware) (cpu : CpuNo) (s : Stage) → SameNumbers s (rotated hw cpu s)
rotated-numbers hw cpu s = rotated-by (SameNumbers s) (by_numbers s) hw cpu s (SameNumbers-refl s)

-- switches
put_on-shape : (cpu : CpuNo) (to : Option TaskNo) (s : Stage) → SameShape s (put_on cpu to s)
put_on-shape cpu None s = set_running-shape cpu None s
put_on-shape cpu (Some task) s =
    let on : Stage = set_running cpu (Some task) s in
    let status : TaskStatus = record (status_of s task) { last = Some cpu } in
    SameShape-trans s on (set_status task status on) (set_running-shape cpu (Some task) s) (set_status-shape task status on)

put_on-numbers : (cpu : CpuNo) (to : Option TaskNo) (s : Stage) → SameNumbers s (put_on cpu to s)
put_on-numbers cpu None s = record { used = refl; mapped = refl; ids = refl }
put_on-numbers cpu (Some task) s = record { used = refl; mapped = refl; ids = refl }

-- what holds of both holds of either stage
pub one_stage : (P : Stage → Type 0) (b : Bool) (s t : Stage) → P s → P t → P (elim b as (λ x. Stage) [ true ↦ s | false ↦ t ])
one_stage P true s t h k = h
one_stage P false s t h k = k

pub switched-shape : (cpu : CpuNo) (to : Option TaskNo) (s : Stage) → SameShape s (switched cpu to s)
unfolding switched
switched-shape cpu to s = one_stage (SameShape s) (is_running (task_on s cpu) to) s (put_on cpu to s) (SameShape-refl s) (put_on-shape cpu to s)

pub switched-numbers : (cpu : CpuNo) (to : Option TaskNo) (s : Stage) → SameNumbers s (switched cpu to s)
unfolding switched
switched-numbers cpu to s = one_stage (SameNumbers s) (is_running (task_on s cpu) to) s (put_on cpu to s) (SameNumbers-refl s) (put_on-numbers cpu to s)

-- exits and forks
exited_by-shape : (cpu : CpuNo) (to : Option TaskNo) (s : Stage) → SameShape s (exited_by cpu to s)
exited_by-shape cpu None s = SameShape-refl s
exited_by-shape cpu (Some task) s = record {
  running = length-set s.running cpu.0 None;
  tasks = length-set s.tasks task.0 _;
  contexts = length-set s.contexts (place_of (context.Task task)) _;
}

exited_by-numbers : (cpu : CpuNo) (to : Option TaskNo) (s : Stage) → SameNumbers s (exited_by cpu to s)
exited_by-numbers cpu None s = SameNumbers-refl s
exited_by-numbers cpu (Some task) s = record { used = refl; mapped = refl; ids = refl }

pub exited-shape : (cpu : CpuNo) (s : Stage) → SameShape s (exited cpu s)
unfolding exited
exited-shape cpu s = exited_by-shape cpu (task_on s cpu) s

pub exited-numbers : (cpu : CpuNo) (s : Stage) → SameNumbers s (exited cpu s)
unfolding exited
exited-numbers cpu s = exited_by-numbers cpu (task_on s cpu) s

pub forked-shape : (cpu : CpuNo) (child : TaskNo) (s : Stage) → SameShape s (forked cpu child s)
unfolding forked
forked-shape cpu child s = record {
  running = refl;
  tasks = length-set s.tasks child.0 fresh_task;
  contexts = length-set s.contexts (place_of (context.Task child)) (copied s (task_lists s (task_on s cpu)));
}

-- opening
placed-shape : (leader : Option EventNo) (i : Instance) (s : Stage) → SameShape s (placed leader i s)
placed-shape None i s = change_context-shape (context_of i.attr) (add_group (is_pinned i.attr) (alone i)) s
placed-shape (Some e) i s = contexts-shape s (join_lists e i)

pub opened-shape : (s : Stage) (slot : EventNo) (a : Attr) (leader : Option EventNo) → SameShape s (opened s slot a leader)
unfolding opened
opened-shape s slot a leader =
    let same : SameShape s (placed leader (new_original s slot a) s) = placed-shape leader (new_original s slot a) s in
    record { running = same.running; tasks = same.tasks; contexts = same.contexts }

-- every line
pub cpu_changed-shape : (hw : Hardware) (cpu : CpuNo) (line : CpuLine) (s : Stage) → SameShape s (cpu_changed hw cpu line s)
cpu_changed-shape hw cpu (cpu_line.Switch to) s = switched-shape cpu to s
cpu_changed-shape hw cpu (cpu_line.Work w) s = SameShape-refl s
cpu_changed-shape hw cpu cpu_line.Tick s = rotated-shape hw cpu s
cpu_changed-shape hw cpu (cpu_line.Fork child) s = forked-shape cpu child s
cpu_changed-shape hw cpu cpu_line.Exit s = exited-shape cpu s

pub tool_changed-shape : (line : ToolLine) (s : Stage) → SameShape s (tool_changed line s)
unfolding command_each with_period mapped_to output_to closed
tool_changed-shape (tool_line.Open slot attr leader) s = opened-shape s slot attr leader
tool_changed-shape (tool_line.Enable event group) s = record { running = refl; tasks = refl; contexts = length-map s.contexts _ }
tool_changed-shape (tool_line.Disable event group) s = record { running = refl; tasks = refl; contexts = length-map s.contexts _ }
tool_changed-shape (tool_line.Reset event group) s = SameShape-refl s
tool_changed-shape (tool_line.Period event period) s = record { running = refl; tasks = refl; contexts = length-map s.contexts _ }
tool_changed-shape (tool_line.Read event size) s = SameShape-refl s
tool_changed-shape (tool_line.Map event ring) s = record { running = refl; tasks = refl; contexts = length-map s.contexts _ }
tool_changed-shape (tool_line.Output event target) s = record { running = refl; tasks = refl; contexts = length-map s.contexts _ }
tool_changed-shape (tool_line.Close event) s = contexts-shape s (without (is_of_family event))
tool_changed-shape (tool_line.Why event) s = SameShape-refl s
tool_changed-shape (tool_line.Seats cpu) s = SameShape-refl s

unless_refused-shape : (hw : Hardware) (r : Option Reason) (change : Stage → Stage) (s : Stage) → SameShape s (change s) → SameShape s (unless_refused hw r change s)
unless_refused-shape hw (Some r) change s h = SameShape-refl s
unless_refused-shape hw None change s h = SameShape-trans s (change s) (settle_all hw (change s)) h (settle_all-shape hw (change s))

pub step-shape : (hw : Hardware) (s : Stage) (x : Step) → SameShape s (stage_step hw s x)
unfolding stage_step
step-shape hw s (CpuStep cpu line) = unless_refused-shape hw (cpu_refusal s cpu line) (cpu_changed hw cpu line) s (cpu_changed-shape hw cpu line s)
step-shape hw s (ToolStep line) = unless_refused-shape hw (tool_refusal hw s line) (tool_changed line) s (tool_changed-shape line s)
step-shape hw s (SeenStep ring place) = SameShape-refl s

pub shape_step : (hw : Hardware) (s : Stage) (x : Step) → HasShape hw s → HasShape hw (stage_step hw s x)
shape_step hw s x h =
    let same : SameShape s (stage_step hw s x) = step-shape hw s x in
    record { running = same.running ∙ h.running; tasks = same.tasks ∙ h.tasks; contexts = same.contexts ∙ h.contexts }

pub shape_first : (l : Limits) (hw : Hardware) (declared : List TaskNo) → IsMachine l hw → HasShape hw (first_stage l.cpus declared)
unfolding first_stage
shape_first l hw declared m = record { running = length-replicate l.cpus None ∙ sym m.cpus; tasks = refl; contexts = refl }

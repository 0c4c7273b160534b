-- Ids and slots are drawn and never given back.
use Rattle.std.specs.{Prelude.{◌≡◌, ◌≤◌, ◌==◌, Bool, true, false, ◌||◌, List, [], ◌∷◌, ◌++◌, Option, Some, None}, List.{list_any}}
use Rattle.std.proofs.Common.{arith, refl}
use Rattle.perf_base.specs.declared.{numbers.{CpuNo.{CpuNo}, EventNo.{EventNo}, TaskNo.{TaskNo}}, lines.{CpuLine.{CpuLine}, ToolLine.{ToolLine}}}
use Rattle.perf_base.specs.declared.{attr.Attr.{Attr}, reasons.Reason.{Reason}}
use Rattle.perf_base.specs.declared.lines.CpuLine.TheVariants as cpu_line
use Rattle.perf_base.specs.declared.lines.ToolLine.TheVariants as tool_line
use Rattle.perf_base.specs.declared.standing.Context.TheVariants as context
use Rattle.stage_spec.specs.{Hardware.{Hardware}, Stage.{Stage, task_on, all_cpus, change_context}, Verdict.{Judged, verdicts}}
use Rattle.stage_spec.specs.{Settle.{settle_lists, settle_task, own_verdicts, settle, settle_each, settle_all}, Opening.{opened, is_used}}
use Rattle.stage_spec.specs.{Commands.{command_each, with_period}, Mapping.{mapped_to, output_to}, Closing.{closed}}
use Rattle.stage_spec.specs.{Rotation.{turn_lists, turn_task, rotated}, Forks.{forked}, Exits.{exited, exited_by}}
use Rattle.stage_spec.specs.Switching.{switched, put_on, is_running}
use Rattle.stage_spec.specs.History.{Step, CpuStep, ToolStep, SeenStep, cpu_refusal, tool_refusal, cpu_changed, tool_changed, stage_step, unless_refused}

-- no id and no slot is given back
pub record Draws (s t : Stage) : Type 0 where
  pub ids : s.next_id ≤ t.next_id
  pub slots : (e : EventNo) → is_used t e ≡ false → is_used s e ≡ false

abbrev none_given : (s : Stage) → Draws s s
none_given s = record { ids = omega arith; slots = λ e h. h }

then_draws : (s t u : Stage) → Draws s t → Draws t u → Draws s u
then_draws s t u h k = record { ids = omega (arith, h.ids, k.ids); slots = λ e f. h.slots e (k.slots e f) }

settle_task-draws : (hw : Hardware) (cpu : CpuNo) (before : List Judged) (to : Option TaskNo) (s : Stage) → Draws s (settle_task hw cpu before to s)
settle_task-draws hw cpu before None s = none_given s
settle_task-draws hw cpu before (Some task) s = record { ids = omega arith; slots = λ e h. h }

settle-draws : (hw : Hardware) (cpu : CpuNo) (s : Stage) → Draws s (settle hw cpu s)
unfolding settle
settle-draws hw cpu s =
    let own : Stage = change_context (context.Processor cpu) (settle_lists hw cpu []) s in
    let k : Draws own (settle_task hw cpu (own_verdicts hw s cpu) (task_on s cpu) own) = settle_task-draws hw cpu (own_verdicts hw s cpu) (task_on s cpu) own in
    record { ids = k.ids; slots = k.slots }

settle_each-draws : (hw : Hardware) (cpus : List CpuNo) (s : Stage) → Draws s (settle_each hw cpus s)
unfolding settle_each
settle_each-draws hw [] s = none_given s
settle_each-draws hw (cpu ∷ cpus) s = then_draws s (settle hw cpu s) (settle_each hw cpus (settle hw cpu s)) (settle-draws hw cpu s) (settle_each-draws hw cpus (settle hw cpu s))

pub settle_all-draws : (hw : Hardware) (s : Stage) → Draws s (settle_all hw s)
unfolding settle_all
settle_all-draws hw s = settle_each-draws hw (all_cpus s) s

put_on-draws : (cpu : CpuNo) (to : Option TaskNo) (s : Stage) → Draws s (put_on cpu to s)
put_on-draws cpu None s = record { ids = omega arith; slots = λ e h. h }
put_on-draws cpu (Some task) s = record { ids = omega arith; slots = λ e h. h }

one_of-draws : (b : Bool) (s t u : Stage) → Draws s t → Draws s u → Draws s (elim b as (λ x. Stage) [ true ↦ t | false ↦ u ])
one_of-draws true s t u h k = h
one_of-draws false s t u h k = k

switched-draws : (cpu : CpuNo) (to : Option TaskNo) (s : Stage) → Draws s (switched cpu to s)
unfolding switched
switched-draws cpu to s = one_of-draws (is_running (task_on s cpu) to) s s (put_on cpu to s) (none_given s) (put_on-draws cpu to s)

turn_task-draws : (hw : Hardware) (cpu : CpuNo) (js : List Judged) (to : Option TaskNo) (s : Stage) → Draws s (turn_task hw cpu js to s)
turn_task-draws hw cpu js None s = none_given s
turn_task-draws hw cpu js (Some task) s = record { ids = omega arith; slots = λ e h. h }

rotated-draws : (hw : Hardware) (cpu : CpuNo) (s : Stage) → Draws s (rotated hw cpu s)
unfolding rotated
rotated-draws hw cpu s =
    let own : Stage = change_context (context.Processor cpu) (turn_lists hw cpu (verdicts hw s cpu)) s in
    let k : Draws own (turn_task hw cpu (verdicts hw s cpu) (task_on s cpu) own) = turn_task-draws hw cpu (verdicts hw s cpu) (task_on s cpu) own in
    record { ids = k.ids; slots = k.slots }

exited_by-draws : (cpu : CpuNo) (to : Option TaskNo) (s : Stage) → Draws s (exited_by cpu to s)
exited_by-draws cpu None s = none_given s
exited_by-draws cpu (Some task) s = record { ids = omega arith; slots = λ e h. h }

pub cpu_changed-draws : (hw : Hardware) (cpu : CpuNo) (line : CpuLine) (s : Stage) → Draws s (cpu_changed hw cpu line s)
unfolding forked exited
cpu_changed-draws hw cpu (cpu_line.Switch to) s = switched-draws cpu to s
cpu_changed-draws hw cpu (cpu_line.Work w) s = none_given s
cpu_changed-draws hw cpu cpu_line.Tick s = rotated-draws hw cpu s
cpu_changed-draws hw cpu (cpu_line.Fork child) s = record { ids = omega arith; slots = λ e h. h }
cpu_changed-draws hw cpu cpu_line.Exit s = exited_by-draws cpu (task_on s cpu) s

-- one more slot
fewer_used : (p : EventNo → Bool) (used : List EventNo) (slot : EventNo) → list_any p (used ++ slot ∷ []) ≡ false → list_any p used ≡ false
fewer_used p [] slot h = refl
fewer_used p (e ∷ used) slot h = one (p e) h (λ k. fewer_used p used slot k)
  where
    one : (b : Bool) → (b || list_any p (used ++ slot ∷ [])) ≡ false → (list_any p (used ++ slot ∷ []) ≡ false → list_any p used ≡ false) → (b || list_any p used) ≡ false
    one true k rest = k
    one false k rest = rest k

opened-draws : (s : Stage) (slot : EventNo) (a : Attr) (leader : Option EventNo) → Draws s (opened s slot a leader)
unfolding opened
opened-draws s slot a leader = record { ids = omega arith; slots = λ e h. fewer_used (λ f. f.0 == e.0) s.used slot h }

pub tool_changed-draws : (line : ToolLine) (s : Stage) → Draws s (tool_changed line s)
unfolding command_each with_period mapped_to output_to closed
tool_changed-draws (tool_line.Open slot attr leader) s = opened-draws s slot attr leader
tool_changed-draws (tool_line.Enable event group) s = record { ids = omega arith; slots = λ e h. h }
tool_changed-draws (tool_line.Disable event group) s = record { ids = omega arith; slots = λ e h. h }
tool_changed-draws (tool_line.Reset event group) s = none_given s
tool_changed-draws (tool_line.Period event period) s = record { ids = omega arith; slots = λ e h. h }
tool_changed-draws (tool_line.Read event size) s = none_given s
tool_changed-draws (tool_line.Map event ring) s = record { ids = omega arith; slots = λ e h. h }
tool_changed-draws (tool_line.Output event target) s = record { ids = omega arith; slots = λ e h. h }
tool_changed-draws (tool_line.Close event) s = record { ids = omega arith; slots = λ e h. h }
tool_changed-draws (tool_line.Why event) s = none_given s
tool_changed-draws (tool_line.Seats cpu) s = none_given s

unless_refused-draws : (hw : Hardware) (refusal : Option Reason) (change : Stage → Stage) (s : Stage) → Draws s (change s) → Draws s (unless_refused hw refusal change s)
unless_refused-draws hw (Some r) change s h = none_given s
unless_refused-draws hw None change s h = then_draws s (change s) (settle_all hw (change s)) h (settle_all-draws hw (change s))

pub step-draws : (hw : Hardware) (s : Stage) (x : Step) → Draws s (stage_step hw s x)
unfolding stage_step
step-draws hw s (CpuStep cpu line) = unless_refused-draws hw (cpu_refusal s cpu line) (cpu_changed hw cpu line) s (cpu_changed-draws hw cpu line s)
step-draws hw s (ToolStep line) = unless_refused-draws hw (tool_refusal hw s line) (tool_changed line) s (tool_changed-draws line s)
step-draws hw s (SeenStep ring place) = none_given s

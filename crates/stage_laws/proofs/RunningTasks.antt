-- What runs is live and in one place, after each step.
use Rattle.std.specs.Prelude.{◌≡◌, ℕ, ◌<◌, ◌==◌, Bool, true, false, not, List, [], ◌∷◌, length, replicate, Option, Some, None, slice_index_or}
use Rattle.std.proofs.{Common.{arith, refl, sym, ap, ◌∙◌, inl, inr}, lemmas.Bool.{not-false, cases_eq, cases_lt, false≢true}}
use Rattle.std.proofs.lemmas.{List.{get_or-replicate, get_or_past, length-replicate}, Option.{none-some}}
use Rattle.perf_base.specs.declared.{numbers.{CpuNo.{CpuNo}, TaskNo.{TaskNo}}, lines.{CpuLine.{CpuLine}, ToolLine.{ToolLine}}}
use Rattle.perf_base.specs.declared.reasons.Reason.{Reason}
use Rattle.perf_base.specs.declared.lines.CpuLine.TheVariants as cpu_line
use Rattle.perf_base.specs.declared.lines.ToolLine.TheVariants as tool_line
use Rattle.perf_base.specs.declared.reasons.Reason.TheVariants as reason
use Rattle.stage_spec.specs.{Hardware.{Hardware}, Refusals.{holds_of}}
use Rattle.stage_spec.specs.Stage.{Stage, status_of, is_live, task_on, cpu_of, set_status, set_running, first_stage}
use Rattle.stage_spec.specs.{Settle.{settle, settle_each, settle_all}, Opening.{opened}, Commands.{command_each, with_period}}
use Rattle.stage_spec.specs.{Mapping.{mapped_to, output_to}, Closing.{closed}, Switching.{switched, switch_refusal, put_on, is_running}}
use Rattle.stage_spec.specs.{Rotation.{rotated}, Forks.{fork_refusal, forked}, Exits.{exited, exited_by}}
use Rattle.stage_spec.specs.History.{Step, CpuStep, ToolStep, SeenStep, cpu_refusal, cpu_changed, tool_changed, stage_step, unless_refused}
use Rattle.stage_spec.{specs.Limits.{Limits, IsWithin}, proofs.ByContexts.{KeptByContexts, settle-by, settle_each-by, settle_all-by, rotated-by}}
use Rattle.stage_spec.specs.declared.instance.TaskState.TheVariants as state
use Rattle.stage_laws.specs.Sound.{AreRunning}
use Rattle.stage_laws.proofs.Tasks.{some-same, KeepsTasks, kept-AreRunning, given-AreRunning, status-AreRunning, first-clear, rest-clear, free-task, state-kept, status_of-other, task_on-same, task_on-other}
use Rattle.stage_laws.proofs.OpenHomes.{live-used}

abbrev no_task : Option TaskNo
no_task = None

abbrev some_numbered : ℕ → Option TaskNo
some_numbered n = Some (record { 0 = n })

pub keeps-same : (s : Stage) → KeepsTasks s s
keeps-same s = record { running = refl; tasks = refl }

pub keeps-then : (s t u : Stage) → KeepsTasks s t → KeepsTasks t u → KeepsTasks s u
keeps-then s t u h k = record { running = k.running ∙ h.running; tasks = k.tasks ∙ h.tasks }

-- settling, ticks, opens, commands and closing leave what runs
by_tasks : (s : Stage) → KeptByContexts (KeepsTasks s)
by_tasks s c f t h = record { running = h.running; tasks = h.tasks }

pub settle-keeps : (hw : Hardware) (cpu : CpuNo) (s : Stage) → KeepsTasks s (settle hw cpu s)
settle-keeps hw cpu s = settle-by (KeepsTasks s) (by_tasks s) hw cpu s (keeps-same s)

pub settle_each-keeps : (hw : Hardware) (cpus : List CpuNo) (s : Stage) → KeepsTasks s (settle_each hw cpus s)
settle_each-keeps hw cpus s = settle_each-by (KeepsTasks s) (by_tasks s) hw cpus s (keeps-same s)

pub settle_all-keeps : (hw : Hardware) (s : Stage) → KeepsTasks s (settle_all hw s)
settle_all-keeps hw s = settle_all-by (KeepsTasks s) (by_tasks s) hw s (keeps-same s)

pub rotated-keeps : (hw : Hardware) (cpu : CpuNo) (s : Stage) → KeepsTasks s (rotated hw cpu s)
rotated-keeps hw cpu s = rotated-by (KeepsTasks s) (by_tasks s) hw cpu s (keeps-same s)

pub tool-keeps : (line : ToolLine) (s : Stage) → KeepsTasks s (tool_changed line s)
unfolding opened command_each with_period mapped_to output_to closed
tool-keeps (tool_line.Open slot attr None) s = record { running = refl; tasks = refl }
tool-keeps (tool_line.Open slot attr (Some e)) s = record { running = refl; tasks = refl }
tool-keeps (tool_line.Enable event group) s = record { running = refl; tasks = refl }
tool-keeps (tool_line.Disable event group) s = record { running = refl; tasks = refl }
tool-keeps (tool_line.Reset event group) s = keeps-same s
tool-keeps (tool_line.Period event period) s = record { running = refl; tasks = refl }
tool-keeps (tool_line.Read event size) s = keeps-same s
tool-keeps (tool_line.Map event ring) s = record { running = refl; tasks = refl }
tool-keeps (tool_line.Output event target) s = record { running = refl; tasks = refl }
tool-keeps (tool_line.Close event) s = record { running = refl; tasks = refl }
tool-keeps (tool_line.Why event) s = keeps-same s
tool-keeps (tool_line.Seats cpu) s = keeps-same s

-- a switch that is not refused
put_on-running : (s : Stage) (cpu : CpuNo) (to : Option TaskNo) → cpu.0 < length s.running → AreRunning s → switch_refusal s cpu to ≡ None → AreRunning (put_on cpu to s)
put_on-running s cpu None low h free = given-AreRunning s cpu None low h (λ task e. absurd (none-some task e)) (λ task other e on. absurd (none-some task e))
put_on-running s cpu (Some task) low h free =
    let t : Stage = set_running cpu (Some task) s in
    let busy : Bool = holds_of (λ other. not (other.0 == cpu.0)) (cpu_of s task) in
    let is_there : not (is_live (status_of s task).state) ≡ false = first-clear reason.NoTask (not (is_live (status_of s task).state)) ((reason.Busy, busy) ∷ []) free in
    let not_busy : busy ≡ false = first-clear reason.Busy busy [] (rest-clear reason.NoTask (not (is_live (status_of s task).state)) ((reason.Busy, busy) ∷ []) free) in
    let live : is_live (status_of s task).state ≡ true = not-false (is_live (status_of s task).state) is_there in
    let on : AreRunning t = grind (arith, given-AreRunning, some-same, free-task) in
    grind (arith, status-AreRunning, t, on, state-kept)

one-running : (b : Bool) (s t : Stage) → AreRunning s → AreRunning t → AreRunning (elim b as (λ x. Stage) [ true ↦ s | false ↦ t ])
one-running true s t h k = h
one-running false s t h k = k

switched-running : (s : Stage) (cpu : CpuNo) (to : Option TaskNo) → cpu.0 < length s.running → AreRunning s → switch_refusal s cpu to ≡ None → AreRunning (switched cpu to s)
unfolding switched
switched-running s cpu to low h free = one-running (is_running (task_on s cpu) to) s (put_on cpu to s) h (put_on-running s cpu to low h free)

-- a fork makes a task live that there never was
forked-running : (s : Stage) (cpu : CpuNo) (child : TaskNo) → AreRunning s → fork_refusal s cpu child ≡ None → AreRunning (forked cpu child s)
unfolding forked
forked-running s cpu child h free = grind (arith, first-clear, rest-clear, false≢true, live-used, status_of-other)

-- an exit leaves the task that ran on no processor
exited_by-running : (s : Stage) (cpu : CpuNo) (to : Option TaskNo) → cpu.0 < length s.running → AreRunning s → task_on s cpu ≡ to → AreRunning (exited_by cpu to s)
exited_by-running s cpu None low h at = h
exited_by-running s cpu (Some task) low h at =
    let t : Stage = set_running cpu None s in
    let idle : AreRunning t = given-AreRunning s cpu None low h (λ other e. absurd (none-some other e)) (λ other c e on. absurd (none-some other e)) in
    let gone : (c : CpuNo) (other : TaskNo) → task_on t c ≡ Some other → other.0 ≡ task.0 → ⊥ = λ c other on e.
    (elim (cases_eq c.0 cpu.0) [
      | inl same ↦ none-some other (sym (ap (λ n. slice_index_or t.running n None) same ∙ task_on-same s cpu None low) ∙ on)
      | inr apart ↦
          let before : task_on s c ≡ Some other = sym (task_on-other s cpu c None apart) ∙ on in
          let is_task : Some other ≡ Some task = ap some_numbered e in
          apart (h.once c cpu task (before ∙ is_task) at)
    ]) in
    let left : AreRunning (set_status task (record (status_of s task) { state = state.Exited }) t) =
    status-AreRunning t task (record (status_of s task) { state = state.Exited }) idle
    (λ c other on. ap (λ x. is_live x.state) (status_of-other t task other (record (status_of s task) { state = state.Exited }) (gone c other on)) ∙ idle.live c other on) in
    record { live = left.live; once = left.once }

exited-running : (s : Stage) (cpu : CpuNo) → cpu.0 < length s.running → AreRunning s → AreRunning (exited cpu s)
unfolding exited
exited-running s cpu low h = exited_by-running s cpu (task_on s cpu) low h refl

-- so after each line
pub cpu-running : (hw : Hardware) (s : Stage) (cpu : CpuNo) (line : CpuLine) → cpu.0 < length s.running → AreRunning s → cpu_refusal s cpu line ≡ None → AreRunning (cpu_changed hw cpu line s)
cpu-running hw s cpu (cpu_line.Switch to) low h free = switched-running s cpu to low h free
cpu-running hw s cpu (cpu_line.Work w) low h free = h
cpu-running hw s cpu cpu_line.Tick low h free = kept-AreRunning s (rotated hw cpu s) (rotated-keeps hw cpu s) h
cpu-running hw s cpu (cpu_line.Fork child) low h free = forked-running s cpu child h free
cpu-running hw s cpu cpu_line.Exit low h free = exited-running s cpu low h

unless-running : (hw : Hardware) (r : Option Reason) (change : Stage → Stage) (s : Stage) → AreRunning s → (r ≡ None → AreRunning (change s)) → AreRunning (unless_refused hw r change s)
unless-running hw (Some r) change s h k = h
unless-running hw None change s h k = kept-AreRunning (change s) (settle_all hw (change s)) (settle_all-keeps hw (change s)) (k refl)

pub running_step : (l : Limits) (hw : Hardware) (s : Stage) (x : Step) → length s.running ≡ l.cpus → IsWithin l x → AreRunning s → AreRunning (stage_step hw s x)
unfolding stage_step
running_step l hw s (CpuStep cpu line) n within h = grind (arith, unless-running, cpu-running)
running_step l hw s (ToolStep line) n within h = grind (arith, unless-running, kept-AreRunning, tool-keeps)
running_step l hw s (SeenStep ring place) n within h = h

replicate-none : (n k : ℕ) → slice_index_or (replicate n no_task) k None ≡ None
replicate-none n k = grind (arith, cases_lt, get_or-replicate, get_or_past, length-replicate)

pub running_first : (cpus : ℕ) (declared : List TaskNo) → AreRunning (first_stage cpus declared)
unfolding first_stage
running_first cpus declared = grind (arith, none-some, replicate-none)

-- Each step keeps where instances stand.
use Rattle.std.specs.Prelude.{◌≡◌, ℕ, ◌+◌, ◌<◌, nat_lt, Bool, true, false, List, [], ◌∷◌, length, Option, Some, None, slice_index_or, slice_set, if◌then◌else◌}
use Rattle.std.proofs.{Common.{refl, sym, ap, ◌∙◌, arith, subst}, lemmas.Bool.{true≢false}}
use Rattle.perf_base.specs.declared.{numbers.{CpuNo.{CpuNo}, EventNo.{EventNo}, RingNo.{RingNo}, TaskNo.{TaskNo}}, attr.Attr.{Attr}}
use Rattle.perf_base.specs.declared.{lines.{CpuLine.{CpuLine}, ToolLine.{ToolLine}}, reasons.Reason.{Reason}, standing.Own.{Own}}
use Rattle.perf_base.specs.Contexts.{context_of}
use Rattle.perf_base.specs.declared.lines.CpuLine.TheVariants as cpu_line
use Rattle.perf_base.specs.declared.lines.ToolLine.TheVariants as tool_line
use Rattle.perf_base.specs.declared.reasons.Reason.TheVariants as reason
use Rattle.perf_base.specs.declared.standing.Context.TheVariants as context
use Rattle.stage_spec.specs.{declared.instance.{Instance.{Instance}, TaskStatus.{TaskStatus}}, Hardware.{Hardware}}
use Rattle.stage_spec.specs.Stage.{Stage, lists_of, no_groups, place_of, task_on, status_of, is_live, was_used, is_copy, is_original, change_lists, is_idle, change_context, set_running, fresh_task, live_copies}
use Rattle.stage_spec.specs.{Verdict.{task_lists}, Settle.{settle_all}, Opening.{open_refusal, opened, placed, new_original}}
use Rattle.stage_spec.specs.Commands.{command_each, with_period, is_reached, enabled, disabled, targets}
use Rattle.stage_spec.specs.{Mapping.{mapped_to, output_to, set_ring, ring_of}, Closing.{without, closed}, Rotation.{rotated}}
use Rattle.stage_spec.specs.{Forks.{copied, forked, fork_refusal, new_copies}, Exits.{exited, exited_by}, Switching.{switched, put_on, is_running}}
use Rattle.stage_spec.specs.History.{Step, CpuStep, ToolStep, SeenStep, cpu_refusal, tool_refusal, cpu_changed, tool_changed, unless_refused, stage_step}
use Rattle.stage_spec.{specs.Limits.{Limits, IsMachine, IsWithin, HasShape}, proofs.{Each.{Each, InLists}, Shape.{one_stage}}}
use Rattle.stage_spec.proofs.Contexts.{At, change_context-at, map-at, settle_all-keeps, rotated-keeps, closed-keeps}
use Rattle.stage_spec.specs.declared.instance.TaskState.TheVariants as state
use Rattle.stage_laws.{specs.Sound.{IsNumbered}, proofs.Tasks.{KeepsTasks, status_of-same, status_of-other, state-kept}}
use Rattle.stage_laws.proofs.{Accepted.{no_reason, accepted}, Numbered.{context_of-place}}
use Rattle.stage_laws.proofs.Homes.{context_at, context_at-place, in_context, state_at, IsOfLive, StandsIn, IsHome, no_groups-home, IsHome-tasks, settles-home, turns-home, loses-home, exits-home, command, command-home, period, period-home, output, output-home, copies-home}
use Rattle.stage_laws.proofs.OpenHomes.{with_slot, placed-homes}
use Rattle.stage_laws.proofs.Origins.{IsFamilied, settle_all-familied, switched-familied, rotated-familied, change_each-familied, closed-familied, exited-familied, opened-familied, forked-familied}
use Rattle.stage_laws.proofs.RunningTasks as tasks_kept

-- each place has what belongs there, and no slot a copy without its original
pub record IsHoused (table : ℕ → Attr) (s : Stage) : Type 0 where
  pub homes : At (IsHome s.tasks table) s
  pub families : IsFamilied s

pub record Housed (s : Stage) : Type 0 where
  pub table : ℕ → Attr
  pub housed : IsHoused table s

-- settling and ticks
same_tasks : (table : ℕ → Attr) (s t : Stage) → KeepsTasks s t → At (IsHome s.tasks table) t → At (IsHome t.tasks table) t
same_tasks table s t k h = subst (λ tasks. At (IsHome tasks table) t) (sym k.tasks) h

settled-housed : (hw : Hardware) (table : ℕ → Attr) (s : Stage) → IsHoused table s → IsHoused table (settle_all hw s)
settled-housed hw table s h = record {
  homes = same_tasks table s (settle_all hw s) (tasks_kept.settle_all-keeps hw s)
      (settle_all-keeps (IsHome s.tasks table) (no_groups-home s.tasks table) hw (λ n. settles-home s.tasks table n hw) s h.homes);
  families = settle_all-familied hw s h.families;
}

rotated-housed : (hw : Hardware) (cpu : CpuNo) (table : ℕ → Attr) (s : Stage) → IsHoused table s → IsHoused table (rotated hw cpu s)
rotated-housed hw cpu table s h = record {
  homes = same_tasks table s (rotated hw cpu s) (tasks_kept.rotated-keeps hw cpu s)
      (rotated-keeps (IsHome s.tasks table) (no_groups-home s.tasks table) hw (λ n. turns-home s.tasks table n hw) cpu s h.homes);
  families = rotated-familied hw cpu s h.families;
}

-- a switch
put_on-homes : (cpu : CpuNo) (to : Option TaskNo) (table : ℕ → Attr) (s : Stage) → At (IsHome s.tasks table) s → At (IsHome (put_on cpu to s).tasks table) (put_on cpu to s)
put_on-homes cpu None table s h n = h n
put_on-homes cpu (Some task) table s h n =
    let now : TaskStatus = record (status_of s task) { last = Some cpu } in
    IsHome-tasks s.tasks (slice_set s.tasks task.0 now) table n (λ other at. state-kept (set_running cpu (Some task) s) task other now refl) (slice_index_or s.contexts n no_groups) (h n)

switched-housed : (cpu : CpuNo) (to : Option TaskNo) (table : ℕ → Attr) (s : Stage) → IsHoused table s → IsHoused table (switched cpu to s)
unfolding switched
switched-housed cpu to table s h = record {
  homes = one_stage (λ t. At (IsHome t.tasks table) t) (is_running (task_on s cpu) to) s (put_on cpu to s) h.homes (put_on-homes cpu to table s h.homes);
  families = switched-familied cpu to s h.families;
}

-- the tasks but one stand as they did
other_task : (s : Stage) (task : TaskNo) (now : TaskStatus) (n : ℕ) → (n ≡ 8 + task.0 → ⊥) → (other : TaskNo) → 8 + other.0 ≡ n
    → state_at (slice_set s.tasks task.0 now) other ≡ state_at s.tasks other
other_task s task now n apart other at = ap (λ t. t.state) (status_of-other s task other now (λ e. apart (sym at ∙ ap (λ m. 8 + m) e)))

this_task : (s : Stage) (task : TaskNo) (now : TaskStatus) → task.0 < length s.tasks → (other : TaskNo) → 8 + other.0 ≡ 8 + task.0 → state_at (slice_set s.tasks task.0 now) other ≡ now.state
this_task s task now within other at =
    let same : other.0 ≡ task.0 = omega (arith, at) in
    ap (λ m. state_at (slice_set s.tasks task.0 now) (record { 0 = m })) same ∙ ap (λ t. t.state) (status_of-same s task now within)

-- an exit
exited_by-homes : (hw : Hardware) (cpu : CpuNo) (to : Option TaskNo) (table : ℕ → Attr) (s : Stage) → HasShape hw s → At (IsHome s.tasks table) s
    → At (IsHome (exited_by cpu to s).tasks table) (exited_by cpu to s)
exited_by-homes hw cpu None table s shape h = h
exited_by-homes hw cpu (Some task) table s shape h =
    let now : TaskStatus = record (status_of s task) { state = state.Exited } in
    let after : List TaskStatus = slice_set s.tasks task.0 now in
    change_context-at (IsHome s.tasks table) (IsHome after table) (no_groups-home after table) (context.Task task) (without is_copy) s
    (λ within. exits-home s.tasks after table (8 + task.0)
    (λ other at. ap was_used (this_task s task now (omega (arith, within, shape.tasks, shape.contexts)) other at)) (lists_of s (context.Task task)))
    (λ n l apart. IsHome-tasks s.tasks after table n (other_task s task now n apart) l) h

exited-housed : (hw : Hardware) (cpu : CpuNo) (table : ℕ → Attr) (s : Stage) → HasShape hw s → IsHoused table s → IsHoused table (exited cpu s)
unfolding exited
exited-housed hw cpu table s shape h = search (exited_by-homes, exited-familied)

-- a fork
running_task : (to : Option TaskNo) → is_idle to ≡ false → (task : TaskNo) × (to ≡ Some task)
running_task None h = absurd (true≢false h)
running_task (Some task) h = (task, refl)

forked-homes : (hw : Hardware) (cpu : CpuNo) (child parent : TaskNo) (table : ℕ → Attr) (s : Stage) → HasShape hw s → task_on s cpu ≡ Some parent → At (IsHome s.tasks table) s
    → At (IsHome (slice_set s.tasks child.0 fresh_task) table) (change_context (context.Task child) (λ l. copied s (task_lists s (task_on s cpu))) s)
forked-homes hw cpu child parent table s shape on h =
    let after : List TaskStatus = slice_set s.tasks child.0 fresh_task in
    let from : task_lists s (task_on s cpu) ≡ lists_of s (context.Task parent) = ap (task_lists s) on in
    let stand : InLists (StandsIn s.tasks table (context.Task parent)) (lists_of s (context.Task parent)) = grind (arith, in_context, StandsIn) in
    change_context-at (IsHome s.tasks table) (IsHome after table) (no_groups-home after table) (context.Task child) (λ l. copied s (task_lists s (task_on s cpu))) s
    (λ within before.
    let is_new : (other : TaskNo) → 8 + other.0 ≡ 8 + child.0 → state_at after other ≡ state.Live = this_task s child fresh_task (omega (arith, within, shape.tasks, shape.contexts)) in
    let live : IsOfLive after (context_at (8 + child.0)) =
    subst (IsOfLive after) (sym (context_at-place (context.Task child) (omega (arith, within, shape.contexts)))) (ap is_live (is_new child refl)) in
    rw from (copies-home s s.tasks after table parent (8 + child.0) live (λ other at. ap was_used (is_new other at)) (lists_of s (context.Task parent)) stand (h (8 + parent.0)).one))
    (λ n l apart. IsHome-tasks s.tasks after table n (other_task s child fresh_task n apart) l) h

abbrev fork_faults : Stage → CpuNo → TaskNo → List (Reason × Bool)
fork_faults s cpu child = (reason.Idle, is_idle (task_on s cpu)) ∷ (reason.Exists, was_used (status_of s child).state)
    ∷ (reason.CopiesFull, nat_lt 4096 (live_copies s + new_copies (task_lists s (task_on s cpu)))) ∷ []

forked-housed : (hw : Hardware) (cpu : CpuNo) (child : TaskNo) (table : ℕ → Attr) (s : Stage) → HasShape hw s → child.0 < 64 → fork_refusal s cpu child ≡ None → IsHoused table s
    → IsHoused table (forked cpu child s)
unfolding forked Each
forked-housed hw cpu child table s shape low ok h =
    let none = no_reason (fork_faults s cpu child) ok in
    let parent = running_task (task_on s cpu) none.0 in
    let unused : was_used (status_of s child).state ≡ false = none.1.0 in
    record {
      homes = forked-homes hw cpu child parent.0 table s shape parent.1 h.homes;
      families = forked-familied cpu child s (omega (arith, low, shape.contexts)) ((h.homes (8 + child.0)).empty child refl unused) h.families;
    }

-- lines of a tool
one_of : (b : Bool) (i j : Instance) → j.event ≡ i.event → j.copy ≡ i.copy → ((if b then j else i).event ≡ i.event) × ((if b then j else i).copy ≡ i.copy)
one_of true i j h k = (h, k)
one_of false i j h k = (refl, refl)

command-housed : (f : Own → Own) (events : List EventNo) (table : ℕ → Attr) (s : Stage) → IsHoused table s → IsHoused table (command_each f events s)
unfolding command_each
command-housed f events table s h = record {
  homes = map-at (IsHome s.tasks table) (IsHome s.tasks table) (change_lists (command f events)) s refl (command-home s.tasks table f events) h.homes;
  families = change_each-familied (command f events) (λ i. one_of (is_reached events i) i (record i { own = f i.own }) refl refl) s h.families;
}

period-housed : (e : EventNo) (p : ℕ) (table : ℕ → Attr) (s : Stage) → IsHoused table s → IsHoused table (with_period e p s)
unfolding with_period
period-housed e p table s h = record {
  homes = map-at (IsHome s.tasks table) (IsHome s.tasks table) (change_lists (period e p)) s refl (period-home s.tasks table e p) h.homes;
  families = change_each-familied (period e p) (λ i. one_of (is_original e i) i (record i { attr = record i.attr { period = p } }) refl refl) s h.families;
}

output-housed : (e : EventNo) (ring : Option RingNo) (owner : Bool) (table : ℕ → Attr) (s : Stage) → IsHoused table s → IsHoused table (set_ring e ring owner s)
output-housed e ring owner table s h = record {
  homes = map-at (IsHome s.tasks table) (IsHome s.tasks table) (change_lists (output e ring owner)) s refl (output-home s.tasks table e ring owner) h.homes;
  families = change_each-familied (output e ring owner) (λ i. one_of (is_original e i) i (record i { ring = ring; mapped = owner }) refl refl) s h.families;
}

closed-housed : (e : EventNo) (table : ℕ → Attr) (s : Stage) → IsHoused table s → IsHoused table (closed e s)
unfolding closed
closed-housed e table s h = search (closed-keeps, IsHome, loses-home, closed-familied)

placed-tasks : (leader : Option EventNo) (i : Instance) (s : Stage) → (placed leader i s).tasks ≡ s.tasks
placed-tasks None i s = refl
placed-tasks (Some e) i s = refl

opened-homes : (slot : EventNo) (a : Attr) (leader : Option EventNo) (table : ℕ → Attr) (s : Stage) → At (IsHome s.tasks table) (placed leader (new_original s slot a) s)
    → At (IsHome (opened s slot a leader).tasks table) (opened s slot a leader)
unfolding opened
opened-homes slot a leader table s h = subst (λ tasks. At (IsHome tasks table) (placed leader (new_original s slot a) s)) (sym (placed-tasks leader (new_original s slot a) s)) h

opened-housed : (hw : Hardware) (slot : EventNo) (a : Attr) (leader : Option EventNo) (table : ℕ → Attr) (s : Stage) → HasShape hw s → IsNumbered s
    → place_of (context_of a) < length s.contexts
    → open_refusal hw s slot a leader ≡ None → IsHoused table s → IsHoused (with_slot slot a table) (opened s slot a leader)
opened-housed hw slot a leader table s shape numbered place ok h = search (opened-homes, with_slot, placed-homes, accepted, opened-familied)

-- a step
cpu-housed : (l : Limits) (hw : Hardware) (cpu : CpuNo) (line : CpuLine) (table : ℕ → Attr) (s : Stage) → HasShape hw s → IsWithin l (CpuStep cpu line) → cpu_refusal s cpu line ≡ None
    → IsHoused table s → IsHoused table (cpu_changed hw cpu line s)
cpu-housed l hw cpu (cpu_line.Switch to) table s shape within ok h = switched-housed cpu to table s h
cpu-housed l hw cpu (cpu_line.Work w) table s shape within ok h = h
cpu-housed l hw cpu cpu_line.Tick table s shape within ok h = rotated-housed hw cpu table s h
cpu-housed l hw cpu (cpu_line.Fork child) table s shape within ok h = forked-housed hw cpu child table s shape within.1 ok h
cpu-housed l hw cpu cpu_line.Exit table s shape within ok h = exited-housed hw cpu table s shape h

alike : (table : ℕ → Attr) (s : Stage) → IsHoused table s → Housed s
alike table s h = record { table = table; housed = h }

-- the rings that are mapped say nothing of where instances stand
mapped-housed : (e : EventNo) (ring : RingNo) (table : ℕ → Attr) (s : Stage) → IsHoused table s → IsHoused table (mapped_to e ring s)
unfolding mapped_to
mapped-housed e ring table s h = let k : IsHoused table (set_ring e (Some ring) true s) = output-housed e (Some ring) true table s h in record { homes = k.homes; families = k.families }

tool-housed : (l : Limits) (hw : Hardware) (line : ToolLine) (table : ℕ → Attr) (s : Stage) → IsMachine l hw → HasShape hw s → IsNumbered s → IsWithin l (ToolStep line)
    → tool_refusal hw s line ≡ None → IsHoused table s → Housed (tool_changed line s)
unfolding output_to
tool-housed l hw (tool_line.Open slot attr leader) table s machine shape n within ok h =
    alike (with_slot slot attr table) (opened s slot attr leader) (opened-housed hw slot attr leader table s shape n (context_of-place hw l s attr machine shape within.1) ok h)
tool-housed l hw (tool_line.Enable event group) table s machine shape n within ok h = alike table _ (command-housed enabled (targets s event group) table s h)
tool-housed l hw (tool_line.Disable event group) table s machine shape n within ok h = alike table _ (command-housed disabled (targets s event group) table s h)
tool-housed l hw (tool_line.Reset event group) table s machine shape n within ok h = alike table s h
tool-housed l hw (tool_line.Period event p) table s machine shape n within ok h = alike table _ (period-housed event p table s h)
tool-housed l hw (tool_line.Read event size) table s machine shape n within ok h = alike table s h
tool-housed l hw (tool_line.Map event ring) table s machine shape n within ok h = alike table _ (mapped-housed event ring table s h)
tool-housed l hw (tool_line.Output event target) table s machine shape n within ok h = alike table _ (output-housed event (ring_of s target) false table s h)
tool-housed l hw (tool_line.Close event) table s machine shape n within ok h = alike table _ (closed-housed event table s h)
tool-housed l hw (tool_line.Why event) table s machine shape n within ok h = alike table s h
tool-housed l hw (tool_line.Seats cpu) table s machine shape n within ok h = alike table s h

unless_refused-housed : (hw : Hardware) (r : Option Reason) (change : Stage → Stage) (s : Stage) → Housed s → (r ≡ None → Housed (change s)) → Housed (unless_refused hw r change s)
unless_refused-housed hw (Some r) change s h k = h
unless_refused-housed hw None change s h k = let after : Housed (change s) = k refl in alike after.table (settle_all hw (change s)) (settled-housed hw after.table (change s) after.housed)

pub housed_step : (l : Limits) (hw : Hardware) (s : Stage) (x : Step) → IsMachine l hw → IsWithin l x → HasShape hw s → IsNumbered s → Housed s → Housed (stage_step hw s x)
unfolding stage_step
housed_step l hw s (CpuStep cpu line) machine within shape n h =
    unless_refused-housed hw (cpu_refusal s cpu line) (cpu_changed hw cpu line) s h
    (λ ok. alike h.table (cpu_changed hw cpu line s) (cpu-housed l hw cpu line h.table s shape within ok h.housed))
housed_step l hw s (ToolStep line) machine within shape n h =
    unless_refused-housed hw (tool_refusal hw s line) (tool_changed line) s h (λ ok. tool-housed l hw line h.table s machine shape n within ok h.housed)
housed_step l hw s (SeenStep ring place) machine within shape n h = h

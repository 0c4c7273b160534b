-- What holds of each instance of a stage holds after a step, where it is said of an instance's id, slot and whether it
-- is a copy, and holds of the instances that the step makes.
use Rattle.std.specs.Prelude.{◌≡◌, ℕ, ◌+◌, ◌<◌, ◌≤◌, ◌⊎◌, Bool, true, false, List, [], ◌∷◌, length, drop, sum_by, Option, Some, None, if◌then◌else◌}
use Rattle.std.proofs.{Common.{arith, refl, sym, inl, inr}, lemmas.{List.Sums.{sum_by-cons}, Option.{none-some}}}
use Rattle.perf_base.specs.declared.{numbers.{CpuNo.{CpuNo}, EventNo.{EventNo}, RingNo.{RingNo}, TaskNo.{TaskNo}}, lines.CpuLine.{CpuLine}}
use Rattle.perf_base.specs.declared.{lines.ToolLine.{ToolLine}, attr.Attr.{Attr}, reasons.Reason.{Reason}, standing.{Context.{Context}, Own.{Own}}}
use Rattle.perf_base.specs.Contexts.{context_of}
use Rattle.perf_base.specs.declared.lines.CpuLine.TheVariants as cpu_line
use Rattle.perf_base.specs.declared.lines.ToolLine.TheVariants as tool_line
use Rattle.perf_base.specs.declared.reasons.Reason.TheVariants as reason
use Rattle.perf_base.specs.declared.standing.Context.TheVariants as context
use Rattle.stage_spec.specs.{declared.instance.Instance.{Instance}, Hardware.{Hardware}}
use Rattle.stage_spec.specs.Stage.{Stage, Group, group_size, alone, Lists, lists_of, no_groups, place_of, change_lists, change_each, change_context, is_original, is_of_family, is_copy, task_on, all_cpus}
use Rattle.stage_spec.specs.{Verdict.{Judged, task_lists, verdicts}}
use Rattle.stage_spec.specs.Settle.{settle_lists, settle_task, own_verdicts, settle, settle_each, settle_all}
use Rattle.stage_spec.specs.Opening.{opened, placed, add_group, join_lists, new_original, is_used, open_refusal, open_faults}
use Rattle.stage_spec.specs.{Refusals.{first_of}, Flags.{is_inherited, is_pinned}}
use Rattle.stage_spec.specs.Commands.{command_each, enabled, disabled, targets, with_period, is_reached}
use Rattle.stage_spec.specs.{Mapping.{mapped_to, output_to, set_ring, ring_of}, Closing.{without, closed}, Rotation.{turn_lists, turn_task, rotated}}
use Rattle.stage_spec.specs.Forks.{copy_of, copies_from, copy_group, copy_groups, copied, inherited_groups, new_copies, forked}
use Rattle.stage_spec.specs.{Exits.{exited, exited_by}, Switching.{switched, put_on, is_running}}
use Rattle.stage_spec.specs.History.{Step, CpuStep, ToolStep, SeenStep, cpu_refusal, tool_refusal, cpu_changed, tool_changed, stage_step, unless_refused}
use Rattle.stage_spec.proofs.Inside.{LeavesOwn, settle_lists-in, turn_lists-in, change_lists-in, add_group-in, join_lists-in, without-in}
use Rattle.stage_spec.proofs.Each.{Each, none-Each, cons-Each, head-Each, tail-Each, map-Each, filter-Each, get_or-Each, set-Each, InGroup, InGroups, InLists, InStage, no_groups-In}

-- It says nothing of an instance's own state and ring; and nothing but by its id, its slot and whether it is a copy.
pub record IsOfAttr (P : Instance → Type 0) : Type 0 where
  pub holds : (i j : Instance) → i.id ≡ j.id → i.event ≡ j.event → i.copy ≡ j.copy → i.attr ≡ j.attr → P i → P j

pub record IsOfName (P : Instance → Type 0) : Type 0 where
  pub holds : (i j : Instance) → i.id ≡ j.id → i.event ≡ j.event → i.copy ≡ j.copy → P i → P j

of_attr : (P : Instance → Type 0) → IsOfName P → IsOfAttr P
of_attr P named = record { holds = λ i j id event copy attr h. named.holds i j id event copy h }

pub lists_of-in : (P : Instance → Type 0) (c : Context) (s : Stage) → InStage P s → InLists P (lists_of s c)
lists_of-in P c s h = get_or-Each (InLists P) s.contexts (place_of c) no_groups h (no_groups-In P)

pub task_lists-in : (P : Instance → Type 0) (s : Stage) (to : Option TaskNo) → InStage P s → InLists P (task_lists s to)
task_lists-in P s None h = no_groups-In P
task_lists-in P s (Some task) h = lists_of-in P (context.Task task) s h

pub change_context-in : (P : Instance → Type 0) (c : Context) (f : Lists → Lists) (s : Stage) → ((l : Lists) → InLists P l → InLists P (f l)) → InStage P s → InStage P (change_context c f s)
change_context-in P c f s k h = set-Each (InLists P) s.contexts (place_of c) (f (lists_of s c)) h (k (lists_of s c) (lists_of-in P c s h))

-- a change of each instance that keeps names
change_each-in : (P : Instance → Type 0) (f : Instance → Instance) → ((i : Instance) → P i → P (f i)) → (s : Stage) → InStage P s → InStage P (change_each f s)
change_each-in P f same s h = map-Each (InLists P) (InLists P) (change_lists f) (change_lists-in P P f same) s.contexts h

one_instance : (P : Instance → Type 0) (b : Bool) (i j : Instance) → P i → P j → P (if b then i else j)
one_instance P true i j h k = h
one_instance P false i j h k = k

-- settling
leaves_own : (P : Instance → Type 0) → IsOfAttr P → LeavesOwn P
leaves_own P named i o h = named.holds i (record i { own = o }) refl refl refl refl h

settle_task-in : (P : Instance → Type 0) (named : IsOfAttr P) (hw : Hardware) (cpu : CpuNo) (before : List Judged) (to : Option TaskNo) (s : Stage) → InStage P s → InStage P (settle_task hw cpu before to s)
settle_task-in P named hw cpu before None s h = h
settle_task-in P named hw cpu before (Some task) s h = change_context-in P (context.Task task) (settle_lists hw cpu before) s (settle_lists-in P (leaves_own P named) hw cpu before) h

settle-in : (P : Instance → Type 0) (named : IsOfAttr P) (hw : Hardware) (cpu : CpuNo) (s : Stage) → InStage P s → InStage P (settle hw cpu s)
unfolding settle
settle-in P named hw cpu s h =
    settle_task-in P named hw cpu (own_verdicts hw s cpu) (task_on s cpu) (change_context (context.Processor cpu) (settle_lists hw cpu []) s)
    (change_context-in P (context.Processor cpu) (settle_lists hw cpu []) s (settle_lists-in P (leaves_own P named) hw cpu []) h)

settle_each-in : (P : Instance → Type 0) (named : IsOfAttr P) (hw : Hardware) (cpus : List CpuNo) (s : Stage) → InStage P s → InStage P (settle_each hw cpus s)
unfolding settle_each
settle_each-in P named hw [] s h = h
settle_each-in P named hw (cpu ∷ cpus) s h = settle_each-in P named hw cpus (settle hw cpu s) (settle-in P named hw cpu s h)

pub settle_all-in : (P : Instance → Type 0) (named : IsOfAttr P) (hw : Hardware) (s : Stage) → InStage P s → InStage P (settle_all hw s)
unfolding settle_all
settle_all-in P named hw s h = settle_each-in P named hw (all_cpus s) s h

-- opening
placed-in : (P : Instance → Type 0) (leader : Option EventNo) (i : Instance) (s : Stage) → P i → InStage P s → InStage P (placed leader i s)
placed-in P None i s h k = change_context-in P (context_of i.attr) (add_group (is_pinned i.attr) (alone i)) s
    (λ l. add_group-in P (is_pinned i.attr) (alone i) l (cons-Each P i [] h (none-Each P))) k
placed-in P (Some e) i s h k = map-Each (InLists P) (InLists P) (join_lists e i) (join_lists-in P P e i (λ j g. g) (λ leader leads g. h)) s.contexts k

-- commands, rings
pub command_each-in : (P : Instance → Type 0) (named : IsOfAttr P) (f : Own → Own) (events : List EventNo) (s : Stage) → InStage P s → InStage P (command_each f events s)
unfolding command_each
command_each-in P named f events s h = change_each-in P (λ i. if is_reached events i then record i { own = f i.own } else i) (λ i k. one_instance P (is_reached events i) (record i { own = f i.own }) i (named.holds i (record i { own = f i.own }) refl refl refl refl k) k) s h

-- a new period of an original
abbrev pub PeriodIn : (Instance → Type 0) → EventNo → ℕ → Type 0
PeriodIn P e period = (i : Instance) → is_original e i ≡ true → P i → P (record i { attr = record i.attr { period = period } })

one_if : (P : Instance → Type 0) (b : Bool) (i j : Instance) → (b ≡ true → P i) → P j → P (if b then i else j)
one_if P true i j h k = h refl
one_if P false i j h k = k

pub with_period-in : (P : Instance → Type 0) (e : EventNo) (period : ℕ) (s : Stage) → PeriodIn P e period → InStage P s → InStage P (with_period e period s)
unfolding with_period
with_period-in P e period s new h = change_each-in P (λ i. if is_original e i then record i { attr = record i.attr { period = period } } else i)
    (λ i k. one_if P (is_original e i) (record i { attr = record i.attr { period = period } }) i (λ o. new i o k) k) s h

set_ring-in : (P : Instance → Type 0) (named : IsOfAttr P) (e : EventNo) (ring : Option RingNo) (owner : Bool) (s : Stage) → InStage P s → InStage P (set_ring e ring owner s)
set_ring-in P named e ring owner s h = change_each-in P (λ i. if is_original e i then record i { ring = ring; mapped = owner } else i)
    (λ i k. one_instance P (is_original e i) (record i { ring = ring; mapped = owner }) i (named.holds i (record i { ring = ring; mapped = owner }) refl refl refl refl k) k) s h

pub mapped_to-in : (P : Instance → Type 0) (named : IsOfAttr P) (e : EventNo) (ring : RingNo) (s : Stage) → InStage P s → InStage P (mapped_to e ring s)
unfolding mapped_to
mapped_to-in P named e ring s h = set_ring-in P named e (Some ring) true s h

pub output_to-in : (P : Instance → Type 0) (named : IsOfAttr P) (e f : EventNo) (s : Stage) → InStage P s → InStage P (output_to e f s)
unfolding output_to
output_to-in P named e f s h = set_ring-in P named e (ring_of s f) false s h

-- closing and exits
pub closed-in : (P : Instance → Type 0) (e : EventNo) (s : Stage) → InStage P s → InStage P (closed e s)
unfolding closed
closed-in P e s h = map-Each (InLists P) (InLists P) (without (is_of_family e)) (without-in P P (is_of_family e) (λ i stays k. k)) s.contexts h

exited_by-in : (P : Instance → Type 0) (cpu : CpuNo) (to : Option TaskNo) (s : Stage) → InStage P s → InStage P (exited_by cpu to s)
exited_by-in P cpu None s h = h
exited_by-in P cpu (Some task) s h = change_context-in P (context.Task task) (without is_copy) s (without-in P P is_copy (λ i stays k. k)) h

pub exited-in : (P : Instance → Type 0) (cpu : CpuNo) (s : Stage) → InStage P s → InStage P (exited cpu s)
unfolding exited
exited-in P cpu s h = exited_by-in P cpu (task_on s cpu) s h

-- switches and ticks
put_on-in : (P : Instance → Type 0) (cpu : CpuNo) (to : Option TaskNo) (s : Stage) → InStage P s → InStage P (put_on cpu to s)
put_on-in P cpu None s h = h
put_on-in P cpu (Some task) s h = h

one_stage-in : (P : Instance → Type 0) (b : Bool) (s t : Stage) → InStage P s → InStage P t → InStage P (elim b as (λ x. Stage) [ true ↦ s | false ↦ t ])
one_stage-in P true s t h k = h
one_stage-in P false s t h k = k

pub switched-in : (P : Instance → Type 0) (cpu : CpuNo) (to : Option TaskNo) (s : Stage) → InStage P s → InStage P (switched cpu to s)
unfolding switched
switched-in P cpu to s h = one_stage-in P (is_running (task_on s cpu) to) s (put_on cpu to s) h (put_on-in P cpu to s h)

turn_task-in : (P : Instance → Type 0) (hw : Hardware) (cpu : CpuNo) (js : List Judged) (to : Option TaskNo) (s : Stage) → InStage P s → InStage P (turn_task hw cpu js to s)
turn_task-in P hw cpu js None s h = h
turn_task-in P hw cpu js (Some task) s h = change_context-in P (context.Task task) (turn_lists hw cpu js) s (turn_lists-in P hw cpu js) h

pub rotated-in : (P : Instance → Type 0) (hw : Hardware) (cpu : CpuNo) (s : Stage) → InStage P s → InStage P (rotated hw cpu s)
unfolding rotated
rotated-in P hw cpu s h = turn_task-in P hw cpu (verdicts hw s cpu) (task_on s cpu) (change_context (context.Processor cpu) (turn_lists hw cpu (verdicts hw s cpu)) s)
    (change_context-in P (context.Processor cpu) (turn_lists hw cpu (verdicts hw s cpu)) s (turn_lists-in P hw cpu (verdicts hw s cpu)) h)

-- forks: the copies of a group take the ids from a number on
abbrev pub CopiesIn : (Instance → Type 0) → Stage → (low high : ℕ) → Type 0
CopiesIn P s low high = (i : Instance) (id : ℕ) → P i → low ≤ id → id < high → P (copy_of s id i)

copies_from-in : (P : Instance → Type 0) (s : Stage) (low high : ℕ) → CopiesIn P s low high → (id : ℕ) (instances : List Instance) → Each P instances → low ≤ id → id + length instances ≤ high
    → Each P (copies_from s id instances)
unfolding copies_from Each
copies_from-in P s low high k id [] g l h = tt
copies_from-in P s low high k id (i ∷ instances) g l h = (k i id g.0 l (omega arith), copies_from-in P s low high k (id + 1) instances g.1 (omega arith) (omega arith))

copy_group-in : (P : Instance → Type 0) (s : Stage) (low high : ℕ) → CopiesIn P s low high → (id : ℕ) (g : Group) → InGroup P g → low ≤ id → id + group_size g ≤ high → InGroup P (copy_group s id g)
copy_group-in P s low high k id g m l h =
    cons-Each P (copy_of s id g.leader) (copies_from s (id + 1) g.siblings) (k g.leader id (head-Each P g.leader g.siblings m) l (omega arith))
    (copies_from-in P s low high k (id + 1) g.siblings (tail-Each P g.leader g.siblings m) (omega arith) (omega arith))

copy_groups-in : (P : Instance → Type 0) (s : Stage) (low high : ℕ) → CopiesIn P s low high → (id : ℕ) (groups : List Group) → InGroups P groups → low ≤ id → id + sum_by group_size groups ≤ high
    → InGroups P (copy_groups s id groups)
unfolding copy_groups Each
copy_groups-in P s low high k id [] m l h = tt
copy_groups-in P s low high k id (g ∷ groups) m l h =
    let e : sum_by group_size (g ∷ groups) ≡ group_size g + sum_by group_size groups = sum_by-cons group_size g groups in
    (copy_group-in P s low high k id g m.0 l (omega (arith, e, h)), copy_groups-in P s low high k (id + group_size g) groups m.1 (omega arith) (omega (arith, e, h)))

copied-in : (P : Instance → Type 0) (s : Stage) (l : Lists) → CopiesIn P s s.next_id (s.next_id + new_copies l) → InLists P l → InLists P (copied s l)
copied-in P s l k h = record {
  in_pinned = copy_groups-in P s s.next_id (s.next_id + new_copies l) k s.next_id (inherited_groups l.pinned)
      (filter-Each (InGroup P) (λ g. is_inherited g.leader.attr) l.pinned h.in_pinned) (omega arith) (omega arith);
  in_flexible = copy_groups-in P s s.next_id (s.next_id + new_copies l) k (s.next_id + sum_by group_size (inherited_groups l.pinned)) (inherited_groups l.flexible)
      (filter-Each (InGroup P) (λ g. is_inherited g.leader.attr) l.flexible h.in_flexible) (omega arith) (omega arith);
}

pub forked-in : (P : Instance → Type 0) (cpu : CpuNo) (child : TaskNo) (s : Stage) → CopiesIn P s s.next_id (s.next_id + new_copies (task_lists s (task_on s cpu))) → InStage P s → InStage P (forked cpu child s)
unfolding forked
forked-in P cpu child s k h =
    change_context-in P (context.Task child) (λ l. copied s (task_lists s (task_on s cpu))) s
    (λ l m. copied-in P s (task_lists s (task_on s cpu)) k (task_lists-in P s (task_on s cpu) h)) h

pub opened-in : (P : Instance → Type 0) (s : Stage) (slot : EventNo) (a : Attr) (leader : Option EventNo) → P (new_original s slot a) → InStage P s → InStage P (opened s slot a leader)
unfolding opened
opened-in P s slot a leader k h = placed-in P leader (new_original s slot a) s k h

-- an open that is not refused takes a slot that was not used
first_used : (b : Bool) (rest : List (Reason × Bool)) → first_of ((reason.Exists, b) ∷ rest) ≡ None → b ≡ false
first_used true rest e = absurd (none-some reason.Exists (sym e))
first_used false rest e = refl

either_reason : (o other : Option Reason) → (elim o as (λ x. Option Reason) [ Some r ↦ Some r | None ↦ other ]) ≡ None → o ≡ None
either_reason (Some r) other e = e
either_reason None other e = refl

pub no_fault : (hw : Hardware) (s : Stage) (slot : EventNo) (a : Attr) (leader : Option EventNo) → open_refusal hw s slot a leader ≡ None → first_of (open_faults hw s slot a leader) ≡ None
unfolding open_refusal
no_fault hw s slot a leader e = search (either_reason)

pub used_refuses : (hw : Hardware) (s : Stage) (slot : EventNo) (a : Attr) (leader : Option EventNo) → open_refusal hw s slot a leader ≡ None → is_used s slot ≡ false
used_refuses hw s slot a leader e = first_used (is_used s slot) (drop 1 (open_faults hw s slot a leader)) (no_fault hw s slot a leader e)

-- the instances that a step makes: originals in slots that were not used, and copies, with ids from the next one on
abbrev pub NewIn : (Instance → Type 0) → Stage → Type 0
NewIn P s = (i : Instance) → s.next_id ≤ i.id → (i.copy ≡ true) ⊎ (is_used s i.event ≡ false) → P i

cpu_changed-in : (P : Instance → Type 0) → IsOfName P → (hw : Hardware) (cpu : CpuNo) (line : CpuLine) (s : Stage) → NewIn P s → InStage P s → InStage P (cpu_changed hw cpu line s)
cpu_changed-in P named hw cpu (cpu_line.Switch to) s k h = switched-in P cpu to s h
cpu_changed-in P named hw cpu (cpu_line.Work w) s k h = h
cpu_changed-in P named hw cpu cpu_line.Tick s k h = rotated-in P hw cpu s h
cpu_changed-in P named hw cpu (cpu_line.Fork child) s k h = forked-in P cpu child s (λ i id g l m. k (copy_of s id i) l (inl refl)) h
cpu_changed-in P named hw cpu cpu_line.Exit s k h = exited-in P cpu s h

tool_changed-in : (P : Instance → Type 0) → IsOfName P → (hw : Hardware) (line : ToolLine) (s : Stage) → tool_refusal hw s line ≡ None → NewIn P s → InStage P s → InStage P (tool_changed line s)
tool_changed-in P named hw (tool_line.Open slot attr leader) s e k h = opened-in P s slot attr leader (k (new_original s slot attr) (omega arith) (inr (used_refuses hw s slot attr leader e))) h
tool_changed-in P named hw (tool_line.Enable event group) s e k h = command_each-in P (of_attr P named) enabled (targets s event group) s h
tool_changed-in P named hw (tool_line.Disable event group) s e k h = command_each-in P (of_attr P named) disabled (targets s event group) s h
tool_changed-in P named hw (tool_line.Reset event group) s e k h = h
tool_changed-in P named hw (tool_line.Period event period) s e k h = with_period-in P event period s (λ i o g. named.holds i (record i { attr = record i.attr { period = period } }) refl refl refl g) h
tool_changed-in P named hw (tool_line.Read event size) s e k h = h
tool_changed-in P named hw (tool_line.Map event ring) s e k h = mapped_to-in P (of_attr P named) event ring s h
tool_changed-in P named hw (tool_line.Output event target) s e k h = output_to-in P (of_attr P named) event target s h
tool_changed-in P named hw (tool_line.Close event) s e k h = closed-in P event s h
tool_changed-in P named hw (tool_line.Why event) s e k h = h
tool_changed-in P named hw (tool_line.Seats cpu) s e k h = h

unless_refused-in : (P : Instance → Type 0) → IsOfName P → (hw : Hardware) (refusal : Option Reason) (change : Stage → Stage) (s : Stage) → (refusal ≡ None → InStage P (change s)) → InStage P s → InStage P (unless_refused hw refusal change s)
unless_refused-in P named hw (Some r) change s k h = h
unless_refused-in P named hw None change s k h = settle_all-in P (of_attr P named) hw (change s) (k refl)

pub step-in : (P : Instance → Type 0) → IsOfName P → (hw : Hardware) (s : Stage) (x : Step) → NewIn P s → InStage P s → InStage P (stage_step hw s x)
unfolding stage_step
step-in P named hw s (CpuStep cpu line) k h = unless_refused-in P named hw (cpu_refusal s cpu line) (cpu_changed hw cpu line) s (λ e. cpu_changed-in P named hw cpu line s k h) h
step-in P named hw s (ToolStep line) k h = unless_refused-in P named hw (tool_refusal hw s line) (tool_changed line) s (λ e. tool_changed-in P named hw line s e k h) h
step-in P named hw s (SeenStep ring place) k h = h

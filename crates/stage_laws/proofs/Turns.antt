-- The laws of turns.
use Rattle.std.specs.Prelude.{◌≡◌, ℕ, suc, ◌+◌, ◌<◌, ◌≤◌, ◌==◌, Bool, true, false, not, ◌&&◌, List, [], ◌∷◌, ◌++◌, length, filter, find, take, drop, Option, Some, None, if◌then◌else◌}
use Rattle.std.proofs.Common.{arith, refl, sym, ap, ◌∙◌, inl, inr, append_assoc, append-nil, length-append, length-set}
use Rattle.std.proofs.lemmas.{Bool.{cases_Bool, and_parts, false≢true, Decides.{nat_tests}}, List.{take-append-drop, length-take-le}}
use Rattle.std.proofs.lemmas.List.Elements.{filter-append}
use Rattle.perf_base.specs.declared.{numbers.{CpuNo.{CpuNo}, TaskNo.{TaskNo}}, standing.Context.{Context}}
use Rattle.perf_base.specs.declared.lines.CpuLine.TheVariants as cpu_line
use Rattle.perf_base.specs.declared.standing.Context.TheVariants as context
use Rattle.stage_spec.specs.Hardware.{Hardware}
use Rattle.stage_spec.specs.Stage.{Stage, Group, Lists, lists_of, no_groups, place_of, task_on, is_task, all_cpus, change_context}
use Rattle.stage_spec.specs.{Verdict.{Judged, verdicts}, Settle.{settle_task, settle, settle_each, settle_all}}
use Rattle.stage_spec.specs.Rotation.{first_goes_last, turned, turn_lists, turn_task, rotated, takes_turns}
use Rattle.stage_spec.{specs.History.{Step, CpuStep, ToolStep, SeenStep, stage_step, stage_after}, proofs.{Each.{Each}, Parts.{All-from_Each}}}
use Rattle.stage_spec.proofs.{Settling.{either, filter-yes, filter-no}, Settled.{place_of-cpu, lists_of-same, lists_of-other, no_groups-settled}}
use Rattle.stage_laws.specs.Narrowing.{has_context}
use Rattle.stage_laws.specs.Turns.{flexible_of, turn_takers, is_waiting, is_tick, waiting_ticks, LeavesTurns, IsTurning, WasFirst, ticked, IsTurned, TurnsLaw, FirstGoesLastLaw, TickLaw, OtherContextsLaw, PlacesLaw}
use Rattle.stage_laws.proofs.{Others.{lists_of-apart, cpus-apart, cpu-task_apart}, Untouched.{other-number}, Tasks.{KeepsTasks, is_task-some}}
use Rattle.stage_laws.proofs.RunningTasks.{keeps-then, settle_all-keeps, rotated-keeps}

-- the first that passes goes last
pub goes_last-here : (test : Group → Bool) (g : Group) (groups : List Group) → test g ≡ true → first_goes_last test (g ∷ groups) ≡ groups ++ g ∷ []
goes_last-here test g groups e = ap (λ b. either b (groups ++ g ∷ []) (g ∷ first_goes_last test groups)) e

pub goes_last-away : (test : Group → Bool) (g : Group) (groups : List Group) → test g ≡ false → first_goes_last test (g ∷ groups) ≡ g ∷ first_goes_last test groups
goes_last-away test g groups e = ap (λ b. either b (groups ++ g ∷ []) (g ∷ first_goes_last test groups)) e

passing-rotate : (test : Group → Bool) (groups : List Group) → filter test (first_goes_last test groups) ≡ drop 1 (filter test groups) ++ take 1 (filter test groups)
passing-rotate test [] = refl
passing-rotate test (g ∷ groups) = grind (arith, goes_last-here, filter-yes, filter-append, goes_last-away, filter-no, passing-rotate test groups)

others-stay : (test : Group → Bool) (groups : List Group) → filter (λ g. not (test g)) (first_goes_last test groups) ≡ filter (λ g. not (test g)) groups
others-stay test [] = refl
others-stay test (g ∷ groups) =
    grind (arith, nat_tests, filter-no, goes_last-here, filter-append, append-nil, goes_last-away, filter-yes, others-stay test groups)

pub first_goes_last_rotates : FirstGoesLastLaw
first_goes_last_rotates test groups = (passing-rotate test groups, others-stay test groups)

-- the first that passes is the first of those that pass
abbrev first_element : List Group → Option Group
first_element [] = None
first_element (g ∷ groups) = Some g

found-first : (test : Group → Bool) (groups : List Group) → find test groups ≡ first_element (filter test groups)
found-first test [] = refl
found-first test (g ∷ groups) = grind (arith, nat_tests, filter-yes, filter-no, found-first test groups)

-- a change of a context that leaves its flexible groups leaves those of every context
flexible-kept : (c d : Context) (f : Lists → Lists) (s : Stage) → f no_groups ≡ no_groups → ((l : Lists) → (f l).flexible ≡ l.flexible)
    → flexible_of (change_context c f s) d ≡ flexible_of s d
flexible-kept c d f s none keeps = grind (arith, nat_tests, lists_of-same, lists_of-other)

-- so does settling
task-flexible : (hw : Hardware) (cpu : CpuNo) (before : List Judged) (to : Option TaskNo) (s : Stage) (c : Context) → flexible_of (settle_task hw cpu before to s) c ≡ flexible_of s c
task-flexible hw cpu before None s c = refl
task-flexible hw cpu before (Some task) s c = search (nat_tests, flexible-kept, no_groups-settled)

settle-flexible : (hw : Hardware) (cpu : CpuNo) (s : Stage) (c : Context) → flexible_of (settle hw cpu s) c ≡ flexible_of s c
unfolding settle
settle-flexible hw cpu s c = search (nat_tests, task-flexible, flexible-kept, no_groups-settled)

settle_each-flexible : (hw : Hardware) (cpus : List CpuNo) (s : Stage) (c : Context) → flexible_of (settle_each hw cpus s) c ≡ flexible_of s c
unfolding settle_each
settle_each-flexible hw [] s c = refl
settle_each-flexible hw (cpu ∷ cpus) s c = settle_each-flexible hw cpus (settle hw cpu s) c ∙ settle-flexible hw cpu s c

pub settle_all-flexible : (hw : Hardware) (s : Stage) (c : Context) → flexible_of (settle_all hw s) c ≡ flexible_of s c
unfolding settle_all
settle_all-flexible hw s c = settle_each-flexible hw (all_cpus s) s c

-- a tick turns both contexts of its processor
low-task_apart : (cpu : CpuNo) (task : TaskNo) → cpu.0 < 8 → place_of (context.Processor cpu) ≡ 8 + task.0 → ⊥
low-task_apart cpu task low same = let at : place_of (context.Processor cpu) ≡ cpu.0 = place_of-cpu cpu low in omega (arith, low, at, same)

own-turned : (hw : Hardware) (cpu : CpuNo) (judged : List Judged) (to : Option TaskNo) (s : Stage) → cpu.0 < 8
    → lists_of (turn_task hw cpu judged to (change_context (context.Processor cpu) (turn_lists hw cpu judged) s)) (context.Processor cpu)
    ≡ turn_lists hw cpu judged (lists_of s (context.Processor cpu))
own-turned hw cpu judged None s low = lists_of-same (context.Processor cpu) (turn_lists hw cpu judged) s refl
own-turned hw cpu judged (Some task) s low = search (nat_tests, lists_of-other, low-task_apart, lists_of-same)

task-turned : (hw : Hardware) (cpu : CpuNo) (judged : List Judged) (task : TaskNo) (s : Stage) → cpu.0 < 8
    → lists_of (turn_task hw cpu judged (Some task) (change_context (context.Processor cpu) (turn_lists hw cpu judged) s)) (context.Task task)
    ≡ turn_lists hw cpu judged (lists_of s (context.Task task))
task-turned hw cpu judged task s low =
    lists_of-same (context.Task task) (turn_lists hw cpu judged) (change_context (context.Processor cpu) (turn_lists hw cpu judged) s) refl
    ∙ ap (turn_lists hw cpu judged) (lists_of-other (context.Processor cpu) (context.Task task) (turn_lists hw cpu judged) s
    (λ same. low-task_apart cpu task low (sym same)))

abbrev cpu_numbered : ℕ → Context
cpu_numbered n = context.Processor (record { 0 = n })

rotated-turned : (hw : Hardware) (cpu : CpuNo) (c : Context) (s : Stage) → cpu.0 < 8 → has_context s cpu c ≡ true
    → lists_of (rotated hw cpu s) c ≡ turn_lists hw cpu (verdicts hw s cpu) (lists_of s c)
unfolding rotated
rotated-turned hw cpu (context.Processor other) s low here = grind (arith, nat_tests, own-turned)
rotated-turned hw cpu (context.Task task) s low here = grind (arith, nat_tests, is_task-some, task-turned)

tick-turned : (hw : Hardware) (cpu : CpuNo) (c : Context) (s : Stage) → cpu.0 < 8 → has_context s cpu c ≡ true
    → flexible_of (ticked hw cpu s) c ≡ turned hw cpu (verdicts hw s cpu) (flexible_of s c)
unfolding stage_step
tick-turned hw cpu c s low here = settle_all-flexible hw (rotated hw cpu s) c ∙ ap (λ l. l.flexible) (rotated-turned hw cpu c s low here)

turned-by : (hw : Hardware) (cpu : CpuNo) (c : Context) (s : Stage) (b : Bool) → is_waiting hw cpu c s ≡ b
    → turned hw cpu (verdicts hw s cpu) (flexible_of s c) ≡ either b (first_goes_last (takes_turns hw cpu) (flexible_of s c)) (flexible_of s c)
turned-by hw cpu c s b e = ap (λ b. either b (first_goes_last (takes_turns hw cpu) (flexible_of s c)) (flexible_of s c)) e

turned-groups : (hw : Hardware) (cpu : CpuNo) (c : Context) (s t : Stage) → flexible_of t c ≡ first_goes_last (takes_turns hw cpu) (flexible_of s c) → IsTurned hw cpu c s t
turned-groups hw cpu c s t moved = grind (arith, nat_tests, first_goes_last_rotates, first_goes_last_rotates (takes_turns hw cpu) (flexible_of s c))

pub tick_turns : TickLaw
tick_turns hw cpu c s low here = (
  λ waiting. turned-groups hw cpu c s (ticked hw cpu s) (tick-turned hw cpu c s low here ∙ turned-by hw cpu c s true waiting),
  λ none. tick-turned hw cpu c s low here ∙ turned-by hw cpu c s false none,
)

-- it leaves the other contexts
task-left : (hw : Hardware) (cpu : CpuNo) (judged : List Judged) (to : Option TaskNo) (c : Context) (s : Stage) → length s.contexts ≡ 72
    → ((task : TaskNo) → to ≡ Some task → place_of c ≡ 8 + task.0 → 72 ≤ place_of c) → lists_of (turn_task hw cpu judged to s) c ≡ lists_of s c
task-left hw cpu judged None c s size apart = refl
task-left hw cpu judged (Some task) c s size apart = lists_of-apart (context.Task task) c (turn_lists hw cpu judged) s size (apart task refl)

rotated-left : (hw : Hardware) (cpu : CpuNo) (c : Context) (s : Stage) → length s.contexts ≡ 72 → (place_of c ≡ place_of (context.Processor cpu) → 72 ≤ place_of c)
    → ((task : TaskNo) → task_on s cpu ≡ Some task → place_of c ≡ 8 + task.0 → 72 ≤ place_of c) → lists_of (rotated hw cpu s) c ≡ lists_of s c
unfolding rotated
rotated-left hw cpu c s size own task = search (nat_tests, task-left, length-set, lists_of-apart)

context-left : (hw : Hardware) (cpu : CpuNo) (c : Context) (s : Stage) → length s.contexts ≡ 72 → has_context s cpu c ≡ false → lists_of (rotated hw cpu s) c ≡ lists_of s c
context-left hw cpu (context.Processor other) s size away =
    rotated-left hw cpu (context.Processor other) s size (cpus-apart cpu other (λ same. other-number other.0 cpu.0 away (sym same))) (λ task on. cpu-task_apart other task)
context-left hw cpu (context.Task task) s size away =
    rotated-left hw cpu (context.Task task) s size (λ same. omega (arith, same, cpu-task_apart cpu task (sym same)))
    (λ here on same. absurd (other-number here.0 task.0 (sym (ap (λ to. is_task to task) on) ∙ away) (omega (arith, same))))

pub ticks_leave_others : OtherContextsLaw
unfolding stage_step
ticks_leave_others hw cpu c s size away = settle_all-flexible hw (rotated hw cpu s) c ∙ ap (λ l. l.flexible) (context-left hw cpu c s size away)

-- a tick leaves what runs, and so do the other steps
tick-task : (hw : Hardware) (cpu : CpuNo) (s : Stage) → task_on (ticked hw cpu s) cpu ≡ task_on s cpu
unfolding stage_step
tick-task hw cpu s = grind (arith, nat_tests, KeepsTasks, keeps-then, rotated-keeps, settle_all-keeps)

still-context : (s t : Stage) (cpu : CpuNo) (c : Context) → task_on t cpu ≡ task_on s cpu → has_context s cpu c ≡ true → has_context t cpu c ≡ true
still-context s t cpu (context.Processor other) same here = here
still-context s t cpu (context.Task task) same here = ap (λ to. is_task to task) same ∙ here

is-tick : (cpu : CpuNo) (x : Step) → is_tick cpu x ≡ true → x ≡ CpuStep cpu cpu_line.Tick
is-tick cpu (CpuStep other (cpu_line.Switch to)) h = absurd (false≢true (and_parts (other.0 == cpu.0) false h).1)
is-tick cpu (CpuStep other (cpu_line.Work w)) h = absurd (false≢true (and_parts (other.0 == cpu.0) false h).1)
is-tick cpu (CpuStep other cpu_line.Tick) h = grind (arith, nat_tests, and_parts)
is-tick cpu (CpuStep other (cpu_line.Fork child)) h = absurd (false≢true (and_parts (other.0 == cpu.0) false h).1)
is-tick cpu (CpuStep other cpu_line.Exit) h = absurd (false≢true (and_parts (other.0 == cpu.0) false h).1)
is-tick cpu (ToolStep line) h = absurd (false≢true h)
is-tick cpu (SeenStep ring place) h = absurd (false≢true h)

-- each step is a tick that moves the first group, or leaves the flexible groups
left-false : (a b : Bool) → (a && b) ≡ false → a ≡ true → b ≡ false
left-false a b h e = ap (λ a. a && b) (sym e) ∙ h

tick-leaves : (hw : Hardware) (cpu : CpuNo) (c : Context) (s : Stage) → cpu.0 < 8 → has_context s cpu c ≡ true → is_waiting hw cpu c s ≡ false
    → LeavesTurns cpu c s (ticked hw cpu s)
tick-leaves hw cpu c s low here none = record { flexible = (tick_turns hw cpu c s low here).1 none; task = tick-task hw cpu s }

step-leaves : (hw : Hardware) (cpu : CpuNo) (c : Context) (s : Stage) (x : Step) → cpu.0 < 8 → has_context s cpu c ≡ true
    → (is_tick cpu x ≡ false → LeavesTurns cpu c s (stage_step hw s x)) → (is_tick cpu x && is_waiting hw cpu c s) ≡ false → LeavesTurns cpu c s (stage_step hw s x)
step-leaves hw cpu c s x low here leaves no_turn = elim (cases_Bool (is_tick cpu x)) [
  | inl tick ↦
      let left : LeavesTurns cpu c s (ticked hw cpu s) = search (nat_tests, tick-leaves, left-false) in
      rw (is-tick cpu x tick) left
  | inr other ↦ leaves other
]

-- a step that turns
record TurnsOne (hw : Hardware) (cpu : CpuNo) (c : Context) (s t : Stage) : Type 0 where
  pub takers : turn_takers hw cpu c t ≡ drop 1 (turn_takers hw cpu c s) ++ take 1 (turn_takers hw cpu c s)
  pub here : has_context t cpu c ≡ true

step-turns : (hw : Hardware) (cpu : CpuNo) (c : Context) (s : Stage) (x : Step) → cpu.0 < 8 → has_context s cpu c ≡ true
    → (is_tick cpu x && is_waiting hw cpu c s) ≡ true → TurnsOne hw cpu c s (stage_step hw s x)
step-turns hw cpu c s x low here turn =
    let both : (is_tick cpu x ≡ true) × (is_waiting hw cpu c s ≡ true) = and_parts (is_tick cpu x) (is_waiting hw cpu c s) turn in
    let done : TurnsOne hw cpu c s (ticked hw cpu s) = grind (arith, nat_tests, tick_turns, still-context, tick-task) in
    rw (is-tick cpu x both.0) done

-- a group with some before it is first after as many turns
later : (hw : Hardware) (cpu : CpuNo) (c : Context) (s : Stage) (x : Step) (steps : List Step) (g : Group)
    → WasFirst hw cpu c (stage_step hw s x) steps g → WasFirst hw cpu c s (x ∷ steps) g
unfolding stage_after
later hw cpu c s x steps g h = (suc h.0, omega (arith, h.1), h.2)

first-now : (hw : Hardware) (cpu : CpuNo) (c : Context) (s : Stage) (steps : List Step) (g : Group) (back : List Group) → turn_takers hw cpu c s ≡ g ∷ back → WasFirst hw cpu c s steps g
unfolding stage_after
first-now hw cpu c s steps g back are = (0, omega arith, found-first (takes_turns hw cpu) (flexible_of s c) ∙ ap first_element are)

ticks-one : (b : Bool) (n : ℕ) → b ≡ true → ((if b then 1 else 0) + n) ≡ suc n
ticks-one b n e = rw e (omega arith)

ticks-none : (b : Bool) (n : ℕ) → b ≡ false → ((if b then 1 else 0) + n) ≡ n
ticks-none b n e = rw e (omega arith)

was-first : (hw : Hardware) (cpu : CpuNo) (c : Context) (s : Stage) (steps : List Step) (front : List Group) (g : Group) (back : List Group) → cpu.0 < 8 → has_context s cpu c ≡ true
    → IsTurning hw cpu c s steps → turn_takers hw cpu c s ≡ front ++ g ∷ back → length front ≤ waiting_ticks hw cpu c s steps → WasFirst hw cpu c s steps g
unfolding IsTurning waiting_ticks
was-first hw cpu c s [] [] g back low here turning are enough = first-now hw cpu c s [] g back are
was-first hw cpu c s [] (a ∷ front) g back low here turning are enough = absurd (omega (arith, enough))
was-first hw cpu c s (x ∷ steps) [] g back low here turning are enough = first-now hw cpu c s (x ∷ steps) g back are
was-first hw cpu c s (x ∷ steps) (a ∷ front) g back low here turning are enough =
    let t : Stage = stage_step hw s x in
    let turn : Bool = is_tick cpu x && is_waiting hw cpu c s in
    let test : Group → Bool = takes_turns hw cpu in
    elim (cases_Bool turn) [
      | inl turns ↦
          let moved : TurnsOne hw cpu c s t = step-turns hw cpu c s x low here turns in
          let now : turn_takers hw cpu c t ≡ front ++ g ∷ (back ++ a ∷ []) = grind (arith, nat_tests, append_assoc) in
          let ticks : ((if turn then 1 else 0) + waiting_ticks hw cpu c t steps) ≡ suc (waiting_ticks hw cpu c t steps) = ticks-one turn (waiting_ticks hw cpu c t steps) turns in
          later hw cpu c s x steps g (was-first hw cpu c t steps front g (back ++ a ∷ []) low moved.here turning.1 now (omega (arith, enough, ticks)))
      | inr stays ↦
          let left : LeavesTurns cpu c s t = step-leaves hw cpu c s x low here turning.0 stays in
          let now : turn_takers hw cpu c t ≡ (a ∷ front) ++ g ∷ back = ap (filter test) left.flexible ∙ are in
          let ticks : ((if turn then 1 else 0) + waiting_ticks hw cpu c t steps) ≡ waiting_ticks hw cpu c t steps = ticks-none turn (waiting_ticks hw cpu c t steps) stays in
          later hw cpu c s x steps g (was-first hw cpu c t steps (a ∷ front) g back low (still-context s t cpu c left.task here) turning.1 now (omega (arith, enough, ticks)))
    ]

-- what holds wherever a list is cut holds of each of its elements
by_cuts : (P : Group → Type 0) (front groups : List Group) → ((before : List Group) (g : Group) (back : List Group) → front ++ groups ≡ before ++ g ∷ back → P g) → Each P groups
unfolding Each
by_cuts P front [] h = tt
by_cuts P front (g ∷ groups) h =
    (h front g groups refl, by_cuts P (front ++ g ∷ []) groups (λ before x back e. h before x back (sym (append_assoc front (g ∷ []) groups) ∙ e)))

pub each_has_its_turn : TurnsLaw
each_has_its_turn hw cpu c s steps low here turning enough =
    let takers : List Group = turn_takers hw cpu c s in
    All-from_Each (WasFirst hw cpu c s steps) takers
    (by_cuts (WasFirst hw cpu c s steps) [] takers (λ before g back e.
    let size : length takers ≡ length before + suc (length back) = ap length e ∙ length-append before (g ∷ back) in
    was-first hw cpu c s steps before g back low here turning e (omega (arith, enough, size))))

-- as many go last as there are such ticks
places-turned : (hw : Hardware) (cpu : CpuNo) (c : Context) (s : Stage) (steps : List Step) (front back : List Group) → cpu.0 < 8 → has_context s cpu c ≡ true
    → IsTurning hw cpu c s steps → turn_takers hw cpu c s ≡ front ++ back → waiting_ticks hw cpu c s steps ≡ length front
    → turn_takers hw cpu c (stage_after hw s steps) ≡ back ++ front
unfolding IsTurning waiting_ticks stage_after
places-turned hw cpu c s [] [] back low here turning are ticks = are ∙ sym (append-nil back)
places-turned hw cpu c s [] (a ∷ front) back low here turning are ticks = absurd (omega (arith, ticks))
places-turned hw cpu c s (x ∷ steps) [] back low here turning are ticks =
    let t : Stage = stage_step hw s x in
    let turn : Bool = is_tick cpu x && is_waiting hw cpu c s in
    elim (cases_Bool turn) [
      | inl turns ↦ absurd (omega (arith, ticks, ticks-one turn (waiting_ticks hw cpu c t steps) turns))
      | inr stays ↦
          let left : LeavesTurns cpu c s t = step-leaves hw cpu c s x low here turning.0 stays in
          places-turned hw cpu c t steps [] back low (still-context s t cpu c left.task here) turning.1 (ap (filter (takes_turns hw cpu)) left.flexible ∙ are)
          (sym (ticks-none turn (waiting_ticks hw cpu c t steps) stays) ∙ ticks)
    ]
places-turned hw cpu c s (x ∷ steps) (a ∷ front) back low here turning are ticks =
    let t : Stage = stage_step hw s x in
    let turn : Bool = is_tick cpu x && is_waiting hw cpu c s in
    elim (cases_Bool turn) [
      | inl turns ↦
          let moved : TurnsOne hw cpu c s t = step-turns hw cpu c s x low here turns in
          let now : turn_takers hw cpu c t ≡ front ++ (back ++ a ∷ []) = moved.takers ∙ (ap (λ gs. drop 1 gs ++ take 1 gs) are ∙ append_assoc front back (a ∷ [])) in
          let left : waiting_ticks hw cpu c t steps ≡ length front = omega (arith, ticks, ticks-one turn (waiting_ticks hw cpu c t steps) turns) in
          places-turned hw cpu c t steps front (back ++ a ∷ []) low moved.here turning.1 now left ∙ append_assoc back (a ∷ []) front
      | inr stays ↦
          let left : LeavesTurns cpu c s t = step-leaves hw cpu c s x low here turning.0 stays in
          places-turned hw cpu c t steps (a ∷ front) back low (still-context s t cpu c left.task here) turning.1 (ap (filter (takes_turns hw cpu)) left.flexible ∙ are)
          (sym (ticks-none turn (waiting_ticks hw cpu c t steps) stays) ∙ ticks)
    ]

pub turned_by_places : PlacesLaw
turned_by_places hw cpu c s steps low here turning few =
    let takers : List Group = turn_takers hw cpu c s in
    let j : ℕ = waiting_ticks hw cpu c s steps in
    places-turned hw cpu c s steps (take j takers) (drop j takers) low here turning (sym (take-append-drop j takers)) (sym (length-take-le j takers few))

-- What a processor reaches stays through changes of the contexts that it does not reach.
use Rattle.std.specs.Prelude.{◌≡◌, ◌≢◌, ◌+◌, ◌<◌, ◌≤◌, ◌⊎◌, false, nat_lt, List, length, Option, Some, None}
use Rattle.std.proofs.{Common.{arith, refl, sym, ap, ◌∙◌, inl, inr, length-set}, lemmas.Bool.{cases_lt, Decides.{nat_tests}}}
use Rattle.std.proofs.lemmas.List.{get_or_past}
use Rattle.perf_base.specs.declared.{numbers.{CpuNo.{CpuNo}, TaskNo.{TaskNo}}, standing.Context.{Context}}
use Rattle.perf_base.specs.declared.standing.Context.TheVariants as context
use Rattle.stage_spec.specs.{Hardware.{Hardware}, Stage.{Stage, Lists, lists_of, place_of, task_on, change_context}}
use Rattle.stage_spec.specs.{Verdict.{Judged, passes, task_lists}, Settle.{settle, settle_lists, settle_task}}
use Rattle.stage_spec.proofs.Settled.{lists_of-other, place_of-cpu}
use Rattle.stage_laws.{specs.Sound.{AreRunning}, proofs.Tasks.{task_numbered}}

-- a change of a context at another place, or at none
pub lists_of-apart : (c d : Context) (f : Lists → Lists) (s : Stage) → length s.contexts ≡ 72 → (place_of d ≡ place_of c → 72 ≤ place_of d) → lists_of (change_context c f s) d ≡ lists_of s d
lists_of-apart c d f s size apart = grind (arith, nat_tests, lists_of-other, get_or_past, length-set)

-- a processor's place: its number, or past the end
pub place-cases : (cpu : CpuNo) → ((place_of (context.Processor cpu) ≡ cpu.0) × (cpu.0 < 8)) ⊎ (place_of (context.Processor cpu) ≡ 72)
place-cases cpu = elim (cases_lt cpu.0 8) [
  | inl low ↦ inl (place_of-cpu cpu low, low)
  | inr high ↦ let far : nat_lt cpu.0 8 ≡ false = grind (arith, nat_tests, high) in inr (rw far refl)
]

pub cpus-apart : (cpu other : CpuNo) → other.0 ≢ cpu.0 → place_of (context.Processor other) ≡ place_of (context.Processor cpu) → 72 ≤ place_of (context.Processor other)
cpus-apart cpu other apart same = grind (arith, nat_tests)

pub cpu-task_apart : (cpu : CpuNo) (task : TaskNo) → place_of (context.Processor cpu) ≡ 8 + task.0 → 72 ≤ place_of (context.Processor cpu)
cpu-task_apart cpu task same = grind (arith, nat_tests)

-- what a processor reaches is the same where its two contexts are
pub record ReachesSame (s t : Stage) (cpu : CpuNo) : Type 0 where
  pub running : task_on t cpu ≡ task_on s cpu
  pub own : lists_of t (context.Processor cpu) ≡ lists_of s (context.Processor cpu)
  pub task : (task : TaskNo) → task_on s cpu ≡ Some task → lists_of t (context.Task task) ≡ lists_of s (context.Task task)

task_lists-same : (s t : Stage) (to : Option TaskNo) → ((task : TaskNo) → to ≡ Some task → lists_of t (context.Task task) ≡ lists_of s (context.Task task)) → task_lists t to ≡ task_lists s to
task_lists-same s t None h = refl
task_lists-same s t (Some task) h = h task refl

pub passes-same : (s t : Stage) (cpu : CpuNo) → ReachesSame s t cpu → passes t cpu ≡ passes s cpu
passes-same s t cpu h = grind (arith, nat_tests, task_lists-same)

pub reaches-then : (s t u : Stage) (cpu : CpuNo) → ReachesSame s t cpu → ReachesSame t u cpu → ReachesSame s u cpu
reaches-then s t u cpu h k = record {
  running = k.running ∙ h.running;
  own = k.own ∙ h.own;
  task = λ task on. k.task task (h.running ∙ on) ∙ h.task task on;
}

-- a change of another processor's context
pub own-changed : (cpu other : CpuNo) (f : Lists → Lists) (s : Stage) → length s.contexts ≡ 72 → other.0 ≢ cpu.0 → ReachesSame s (change_context (context.Processor cpu) f s) other
own-changed cpu other f s size apart = record {
  running = refl;
  own = lists_of-apart (context.Processor cpu) (context.Processor other) f s size (cpus-apart cpu other apart);
  task = λ task on. lists_of-apart (context.Processor cpu) (context.Task task) f s size (λ same. omega (arith, same, cpu-task_apart cpu task (sym same)));
}

-- a change of the context of a task that is not on a processor
pub task-changed : (task : TaskNo) (other : CpuNo) (f : Lists → Lists) (s : Stage) → length s.contexts ≡ 72
    → ((here : TaskNo) → task_on s other ≡ Some here → here.0 ≡ task.0 → ⊥) → ReachesSame s (change_context (context.Task task) f s) other
task-changed task other f s size apart = record {
  running = refl;
  own = lists_of-apart (context.Task task) (context.Processor other) f s size (cpu-task_apart other task);
  task = λ here on. lists_of-apart (context.Task task) (context.Task here) f s size (λ same. absurd (apart here on (omega (arith, same))));
}

-- the task on one processor is not the one on another
pub tasks-apart : (s : Stage) (cpu other : CpuNo) (task : TaskNo) → AreRunning s → other.0 ≢ cpu.0 → task_on s cpu ≡ Some task → (here : TaskNo) → task_on s other ≡ Some here → here.0 ≡ task.0 → ⊥
tasks-apart s cpu other task running apart on here there same =
    apart (running.once other cpu task (there ∙ ap (λ n. Some (task_numbered n)) same) on)

-- a change of both contexts of another processor
abbrev pub change_task : Option TaskNo → (Lists → Lists) → Stage → Stage
change_task None f s = s
change_task (Some task) f s = change_context (context.Task task) f s

pub both-changed : (cpu other : CpuNo) (to : Option TaskNo) (f g : Lists → Lists) (s : Stage) → length s.contexts ≡ 72 → AreRunning s → other.0 ≢ cpu.0 → task_on s cpu ≡ to
    → ReachesSame s (change_task to g (change_context (context.Processor cpu) f s)) other
both-changed cpu other None f g s size running apart on = own-changed cpu other f s size apart
both-changed cpu other (Some task) f g s size running apart on =
    let t : Stage = change_context (context.Processor cpu) f s in
    let first : ReachesSame s t other = own-changed cpu other f s size apart in
    reaches-then s t (change_context (context.Task task) g t) other first
    (task-changed task other g t (length-set s.contexts (place_of (context.Processor cpu)) (f (lists_of s (context.Processor cpu))) ∙ size) (tasks-apart s cpu other task running apart on))

settle_task-is : (hw : Hardware) (cpu : CpuNo) (before : List Judged) (to : Option TaskNo) (s : Stage) → settle_task hw cpu before to s ≡ change_task to (settle_lists hw cpu before) s
settle_task-is hw cpu before None s = refl
settle_task-is hw cpu before (Some task) s = refl

-- settling a processor leaves what another one reaches
pub settle-others : (hw : Hardware) (s : Stage) (cpu other : CpuNo) → length s.contexts ≡ 72 → AreRunning s → other.0 ≢ cpu.0 → passes (settle hw cpu s) other ≡ passes s other
unfolding settle
settle-others hw s cpu other size running apart = search (nat_tests, settle_task-is, passes-same, both-changed)

-- The tasks that run, through each change of the stage.
use Rattle.std.specs.Prelude.{◌≡◌, ℕ, zero, suc, ◌<◌, ◌==◌, Bool, true, false, not, List, [], ◌∷◌, length, ◌⊎◌, map, find, Option, Some, None, slice_index_or}
use Rattle.std.{specs.Option.{option_or, unwrap_or}, proofs.Common.{arith, refl, sym, ap, ◌∙◌, inl, inr, get_or-set_same, get_or-set_other}}
use Rattle.std.proofs.lemmas.{Bool.{cases_Bool, cases_lt, Decides.{nat_tests}}, Option.{none-some}, List.{map-append, get_or_past}}
use Rattle.std.proofs.{lemmas.List.Folds.{find-append}, Math.Seq.{set_out}}
use Rattle.perf_base.specs.declared.{numbers.{CpuNo.{CpuNo}, TaskNo.{TaskNo}}, reasons.Reason.{Reason}, standing.Context.{Context}}
use Rattle.perf_base.specs.declared.standing.Context.TheVariants as context
use Rattle.stage_spec.specs.{declared.instance.TaskStatus.{TaskStatus}, Numbers.{numbers_below}, Refusals.{first_of, holds_of}}
use Rattle.stage_spec.specs.Stage.{Stage, status_of, is_live, task_on, is_on_cpu, cpu_of, is_task, set_status, set_running, unknown_task}
use Rattle.stage_laws.specs.{Narrowing.{has_context}, Sound.{AreRunning}}
use Rattle.stage_spec.proofs.Present.{find-passes}

-- where no reason holds, the first doesn't, nor any after it
pub first-clear : (r : Reason) (b : Bool) (rest : List (Reason × Bool)) → first_of ((r, b) ∷ rest) ≡ None → b ≡ false
first-clear r true rest h = absurd (cc)
first-clear r false rest h = refl

pub rest-clear : (r : Reason) (b : Bool) (rest : List (Reason × Bool)) → first_of ((r, b) ∷ rest) ≡ None → first_of rest ≡ None
rest-clear r true rest h = absurd (cc)
rest-clear r false rest h = h

-- what runs on a processor after another task was put on one
pub task_on-same : (s : Stage) (cpu : CpuNo) (to : Option TaskNo) → cpu.0 < length s.running → task_on (set_running cpu to s) cpu ≡ to
task_on-same s cpu to low = get_or-set_same s.running cpu.0 to None low

pub task_on-other : (s : Stage) (cpu other : CpuNo) (to : Option TaskNo) → (other.0 ≡ cpu.0 → ⊥) → task_on (set_running cpu to s) other ≡ task_on s other
task_on-other s cpu other to apart = get_or-set_other s.running cpu.0 other.0 to None apart

-- a processor has the context of the task on it, and its own
pub has-same : (s t : Stage) (cpu : CpuNo) (c : Context) → task_on t cpu ≡ task_on s cpu → has_context t cpu c ≡ has_context s cpu c
has-same s t cpu (context.Processor own) same = refl
has-same s t cpu (context.Task task) same = ap (λ o. is_task o task) same

-- where a task stands after one's status was set
pub status_of-same : (s : Stage) (task : TaskNo) (status : TaskStatus) → task.0 < length s.tasks → status_of (set_status task status s) task ≡ status
status_of-same s task status low = get_or-set_same s.tasks task.0 status unknown_task low

pub status_of-other : (s : Stage) (task other : TaskNo) (status : TaskStatus) → (other.0 ≡ task.0 → ⊥) → status_of (set_status task status s) other ≡ status_of s other
status_of-other s task other status apart = get_or-set_other s.tasks task.0 other.0 status unknown_task apart

-- a status that keeps the state leaves the state of every task
pub state-kept : (s : Stage) (task other : TaskNo) (status : TaskStatus) → status.state ≡ (status_of s task).state
    → (status_of (set_status task status s) other).state ≡ (status_of s other).state
state-kept s task other status same = grind (arith, nat_tests, cases_lt, status_of-same, set_out, status_of-other)

-- one thing of two
pub some-same : {X : Type 0} (x y : X) → Some x ≡ Some y → x ≡ y
some-same x y h = ap (λ o. unwrap_or o x) h

-- what a search finds passes the test
or-none : {X : Type 0} (a b : Option X) → option_or a b ≡ None → (a ≡ None) × (b ≡ None)
or-none None b h = (refl, h)
or-none (Some x) b h = absurd (cc)

abbrev pub numbered : ℕ → CpuNo
numbered n = record { 0 = n }

-- a search over the numbers below a number misses none that passes
misses-none : (p : CpuNo → Bool) (n k : ℕ) → k < n → p (numbered k) ≡ true → find p (map numbered (numbers_below n)) ≡ None → ⊥
misses-none p zero k low test none = omega arith
misses-none p (suc n) k low test none =
    let split : find p (map numbered (numbers_below (suc n))) ≡ option_or (find p (map numbered (numbers_below n))) (find p (numbered n ∷ [])) =
    ap (find p) (map-append numbered (numbers_below n) (n ∷ [])) ∙ find-append p (map numbered (numbers_below n)) (numbered n ∷ []) in
    let both : (find p (map numbered (numbers_below n)) ≡ None) × (find p (numbered n ∷ []) ≡ None) = or-none (find p (map numbered (numbers_below n))) (find p (numbered n ∷ [])) (sym split ∙ none) in
    elim (cases_lt k n) [
      | inl less ↦ misses-none p n k less test both.0
      | inr more ↦ grind (arith, nat_tests, more, none-some)
    ]

some_or_none : {X : Type 0} (o : Option X) → (o ≡ None) ⊎ ((x : X) × (o ≡ Some x))
some_or_none None = inl refl
some_or_none (Some x) = inr (x, refl)

-- the test of what runs
is_task-true : (now : Option TaskNo) (task : TaskNo) → now ≡ Some task → is_task now task ≡ true
is_task-true now task h = rw h (grind (arith, nat_tests))

abbrev pub task_numbered : ℕ → TaskNo
task_numbered n = record { 0 = n }

pub is_task-some : (now : Option TaskNo) (task : TaskNo) → is_task now task ≡ true → now ≡ Some task
is_task-some None task h = absurd (cc)
is_task-some (Some other) task h = let same : other.0 ≡ task.0 = grind (arith, nat_tests, h) in ap (λ n. Some (task_numbered n)) same

-- a processor that runs a task is one of those that there are
pub runs-within : (running : List (Option TaskNo)) (n : ℕ) (task : TaskNo) → slice_index_or running n None ≡ Some task → n < length running
runs-within running n task h = grind (arith, nat_tests, cases_lt, none-some, get_or_past)

-- where a task may go on a processor, it is on no other one
pub free-task : (s : Stage) (cpu other : CpuNo) (task : TaskNo) → AreRunning s → holds_of (λ c. not (c.0 == cpu.0)) (cpu_of s task) ≡ false → task_on s other ≡ Some task → other.0 ≡ cpu.0
free-task s cpu other task sound free on =
    let low : other.0 < length s.running = runs-within s.running other.0 task on in
    let test : is_on_cpu s task other ≡ true = is_task-true (task_on s other) task on in
    elim (some_or_none (cpu_of s task)) [
      | inl none ↦ absurd (misses-none (is_on_cpu s task) (length s.running) other.0 low test none)
      | inr found ↦ grind (arith, nat_tests, find-passes, is_task-some)
    ]

-- a change that leaves what runs and where tasks stand
pub record KeepsTasks (s t : Stage) : Type 0 where
  pub running : t.running ≡ s.running
  pub tasks : t.tasks ≡ s.tasks

pub kept-AreRunning : (s t : Stage) → KeepsTasks s t → AreRunning s → AreRunning t
kept-AreRunning s t k h = grind (arith, nat_tests)

-- a processor is given a live task that is on no other one, or none
pub given-AreRunning : (s : Stage) (cpu : CpuNo) (to : Option TaskNo) → cpu.0 < length s.running → AreRunning s
    → ((task : TaskNo) → to ≡ Some task → is_live (status_of s task).state ≡ true)
    → ((task : TaskNo) (other : CpuNo) → to ≡ Some task → task_on s other ≡ Some task → other.0 ≡ cpu.0)
    → AreRunning (set_running cpu to s)
given-AreRunning s cpu to low h live free =
    let t : Stage = set_running cpu to s in
    let same : (p : CpuNo) → p.0 ≡ cpu.0 → task_on t p ≡ to = λ p e. ap (λ n. slice_index_or t.running n None) e ∙ task_on-same s cpu to low in
    let left : (p : CpuNo) → (p.0 ≡ cpu.0 → ⊥) → task_on t p ≡ task_on s p = λ p e. task_on-other s cpu p to e in
    grind (arith, nat_tests, same, left)

-- a status that leaves each task that runs live
pub status-AreRunning : (s : Stage) (task : TaskNo) (status : TaskStatus) → AreRunning s
    → ((cpu : CpuNo) (other : TaskNo) → task_on s cpu ≡ Some other → is_live (status_of (set_status task status s) other).state ≡ true) → AreRunning (set_status task status s)
status-AreRunning s task status h keeps = record { live = keeps; once = h.once }

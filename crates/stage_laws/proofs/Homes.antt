-- Where instances stand: an original in the context of its attribute, a copy in that of a live task; each with the
-- attribute of its slot, and at most one of a family in a context. How this stays through the changes of one context.
use Rattle.std.specs.Prelude.{◌≡◌, ℕ, ◌+◌, ◌-◌, ◌<◌, ◌≤◌, nat_lt, Bool, true, false, not, List, length, cond, Option, None, slice_index_or, if◌then◌else◌}
use Rattle.std.proofs.Common.{refl, sym, ap, ◌∙◌, arith, inl, inr, subst}
use Rattle.std.proofs.lemmas.{Bool.{cases_lt, both_ways, and_parts, not-true, cond_both, lt-ltb, le-ltb}, List.{get_or_past}}
use Rattle.perf_base.specs.declared.{numbers.{CpuNo.{CpuNo}, EventNo.{EventNo}, RingNo.{RingNo}, TaskNo.{TaskNo}}, attr.Attr.{Attr}}
use Rattle.perf_base.specs.declared.{attr.{TaskSel.{TaskSel}, CpuSel.{CpuSel}}, standing.{Context.{Context}, Own.{Own}}}
use Rattle.perf_base.specs.Contexts.{context_of, context_by}
use Rattle.perf_base.specs.declared.attr.TaskSel.TheVariants as tasks
use Rattle.perf_base.specs.declared.attr.CpuSel.TheVariants as cpus
use Rattle.perf_base.specs.declared.standing.Context.TheVariants as context
use Rattle.stage_spec.specs.{declared.instance.{Instance.{Instance}, TaskState.{TaskState}, TaskStatus.{TaskStatus}}, Hardware.{Hardware}}
use Rattle.stage_spec.specs.Places.{is_all_tasks}
use Rattle.stage_spec.specs.Stage.{Stage, Lists, lists_of, no_groups, place_of, unknown_task, is_live, was_used, is_original, is_of_family, original_of, change_lists}
use Rattle.stage_spec.specs.{Verdict.{Judged}, Settle.{settle_lists}, Closing.{without}, Rotation.{turn_lists}, Commands.{is_reached}}
use Rattle.stage_spec.{specs.Forks.{copied, present_period}, proofs.Each.{InLists, no_groups-In}}
use Rattle.stage_spec.proofs.Inside.{weaker-in, both-in, LeavesOwn, settle_lists-in, turn_lists-in, change_lists-in, without-in, copied-in}
use Rattle.stage_spec.proofs.Contexts.{At}
use Rattle.stage_laws.proofs.Totals.{one_if}
use Rattle.stage_laws.proofs.Weights.{lists_weight, no_groups-weigh, lists-same, lists-le, settle_lists-weighs, turn_lists-weighs, change_lists-weighs, without-weighs, if_stays, if_stays-le}
use Rattle.stage_laws.proofs.Gains.{copied-weighs, inherited_weight-le}
use Rattle.stage_spec.proofs.Settled.{place_of-cpu, no_groups-settled}

-- the context of a place
abbrev pub context_at : ℕ → Context
context_at n = cond (nat_lt n 8) (context.Processor (record { 0 = n })) (context.Task (record { 0 = n - 8 }))

pub place_of-at : (n : ℕ) → place_of (context_at n) ≡ n
place_of-at n = grind (arith, cases_lt, lt-ltb, place_of-cpu, le-ltb)

abbrev task_numbered : ℕ → Context
task_numbered n = context.Task (record { 0 = n })

pub context_at-place : (c : Context) → place_of c < 72 → context_at (place_of c) ≡ c
context_at-place (context.Processor cpu) low = grind (arith, cases_lt, place_of-cpu, lt-ltb, le-ltb)
context_at-place (context.Task task) low = grind (arith, le-ltb)

-- whose context it is, by the task that an attribute names
abbrev is_task_context : Context → Bool
is_task_context (context.Processor cpu) = false
is_task_context (context.Task task) = true

names_task : (task : TaskSel) (cpu : CpuSel) → is_all_tasks task ≡ not (is_task_context (context_by task cpu))
names_task (tasks.One task) cpu = refl
names_task tasks.All (cpus.One cpu) = refl
names_task tasks.All cpus.Any = refl

pub counts_task : (a : Attr) (task : TaskNo) → context_of a ≡ context.Task task → is_all_tasks a.task ≡ false
counts_task a task h = names_task a.task a.cpu ∙ ap (λ c. not (is_task_context c)) h

pub counts_all : (a : Attr) (cpu : CpuNo) → context_of a ≡ context.Processor cpu → is_all_tasks a.task ≡ true
counts_all a cpu h = names_task a.task a.cpu ∙ ap (λ c. not (is_task_context c)) h

-- an attribute with another period
abbrev pub of_period : ℕ → Attr → Attr
of_period p a = record a { period = p }

-- what holds at each place, by the context there, holds of each context
pub in_context : (P : Context → Instance → Type 0) (s : Stage) → length s.contexts ≡ 72 → At (λ n. InLists (P (context_at n))) s → (c : Context) → InLists (P c) (lists_of s c)
in_context P s shape h c = elim (cases_lt (place_of c) 72) [
  | inl within ↦ subst (λ d. InLists (P d) (lists_of s c)) (context_at-place c within) (h (place_of c))
  | inr past ↦ grind (arith, get_or_past, past, no_groups-In)
]

-- where a task stands among some tasks, and whether a context is that of a live one
abbrev pub state_at : List TaskStatus → TaskNo → TaskState
state_at tasks task = (slice_index_or tasks task.0 unknown_task).state

abbrev pub IsOfLive : List TaskStatus → Context → Type 0
IsOfLive tasks (context.Processor cpu) = ⊥
IsOfLive tasks (context.Task task) = is_live (state_at tasks task) ≡ true

-- an instance of a context: a table has the attribute of each slot
pub record IsCopied (tasks : List TaskStatus) (c : Context) (i : Instance) : Type 0 where
  pub live : IsOfLive tasks c
  pub task : is_all_tasks i.attr.task ≡ false
  pub ring : i.ring ≡ None
  pub mapped : i.mapped ≡ false

pub record StandsIn (tasks : List TaskStatus) (table : ℕ → Attr) (c : Context) (i : Instance) : Type 0 where
  pub attr : i.attr ≡ record (table i.event.0) { period = i.attr.period }
  pub original : i.copy ≡ false → context_of i.attr ≡ c
  pub copied : i.copy ≡ true → IsCopied tasks c i

-- the groups at a place
pub record IsHome (tasks : List TaskStatus) (table : ℕ → Attr) (n : ℕ) (l : Lists) : Type 0 where
  pub stands : InLists (StandsIn tasks table (context_at n)) l
  pub empty : (task : TaskNo) → 8 + task.0 ≡ n → was_used (state_at tasks task) ≡ false → l ≡ no_groups
  pub one : (e : EventNo) → lists_weight (one_if (is_of_family e)) l ≤ 1

pub no_groups-home : (tasks : List TaskStatus) (table : ℕ → Attr) (n : ℕ) → IsHome tasks table n no_groups
no_groups-home tasks table n = grind (arith, no_groups-In, no_groups-weigh, one_if)

-- tasks that stand as before at this place
IsOfLive-more : (tasks now : List TaskStatus) (n : ℕ) → ((task : TaskNo) → 8 + task.0 ≡ n → state_at now task ≡ state_at tasks task)
    → (c : Context) → place_of c ≡ n → IsOfLive tasks c → IsOfLive now c
IsOfLive-more tasks now n same (context.Processor cpu) at h = h
IsOfLive-more tasks now n same (context.Task task) at h = ap is_live (same task at) ∙ h

pub IsHome-tasks : (tasks now : List TaskStatus) (table : ℕ → Attr) (n : ℕ) → ((task : TaskNo) → 8 + task.0 ≡ n → state_at now task ≡ state_at tasks task)
    → (l : Lists) → IsHome tasks table n l → IsHome now table n l
IsHome-tasks tasks now table n same l h = record {
  stands = weaker-in (StandsIn tasks table (context_at n)) (StandsIn now table (context_at n))
      (λ i k. record {
        attr = k.attr;
        original = k.original;
        copied = λ yes. record {
          live = IsOfLive-more tasks now n same (context_at n) (place_of-at n) (k.copied yes).live;
          task = (k.copied yes).task;
          ring = (k.copied yes).ring;
          mapped = (k.copied yes).mapped;
        };
      }) l h.stands;
  empty = λ task at unused. h.empty task at (ap was_used (sym (same task at)) ∙ unused);
  one = h.one;
}

-- settling, a tick, and instances that go
StandsIn-own : (tasks : List TaskStatus) (table : ℕ → Attr) (c : Context) → LeavesOwn (StandsIn tasks table c)
StandsIn-own tasks table c i o h = record {
  attr = h.attr;
  original = h.original;
  copied = λ k. record { live = (h.copied k).live; task = (h.copied k).task; ring = (h.copied k).ring; mapped = (h.copied k).mapped };
}

pub settles-home : (tasks : List TaskStatus) (table : ℕ → Attr) (n : ℕ) (hw : Hardware) (cpu : CpuNo) (before : List Judged) (l : Lists) → IsHome tasks table n l
    → IsHome tasks table n (settle_lists hw cpu before l)
settles-home tasks table n hw cpu before l h = grind (arith, settle_lists-in, no_groups-settled, settle_lists-weighs, one_if)

pub turns-home : (tasks : List TaskStatus) (table : ℕ → Attr) (n : ℕ) (hw : Hardware) (cpu : CpuNo) (judged : List Judged) (l : Lists) → IsHome tasks table n l
    → IsHome tasks table n (turn_lists hw cpu judged l)
turns-home tasks table n hw cpu judged l h = grind (arith, turn_lists-in, turn_lists-weighs, one_if)

without-one : (goes : Instance → Bool) (e : EventNo) (l : Lists) → lists_weight (one_if (is_of_family e)) l ≤ 1 → lists_weight (one_if (is_of_family e)) (without goes l) ≤ 1
without-one goes e l h = grind (arith, without-weighs, one_if, lists-le, if_stays, if_stays-le)

pub loses-home : (tasks : List TaskStatus) (table : ℕ → Attr) (n : ℕ) (goes : Instance → Bool) (l : Lists) → IsHome tasks table n l → IsHome tasks table n (without goes l)
loses-home tasks table n goes l h = record {
  stands = without-in (StandsIn tasks table (context_at n)) (StandsIn tasks table (context_at n)) goes (λ i stays k. k) l h.stands;
  empty = λ task at unused. ap (without goes) (h.empty task at unused);
  one = λ e. without-one goes e l (h.one e);
}

-- the copies of a task that exits
pub exits-home : (tasks now : List TaskStatus) (table : ℕ → Attr) (n : ℕ) → ((task : TaskNo) → 8 + task.0 ≡ n → was_used (state_at now task) ≡ true)
    → (l : Lists) → IsHome tasks table n l → IsHome now table n (without (λ i. i.copy) l)
exits-home tasks now table n used l h = record {
  stands = without-in (StandsIn tasks table (context_at n)) (StandsIn now table (context_at n)) (λ i. i.copy)
      (λ i stays k. record { attr = k.attr; original = k.original; copied = λ yes. absurd (both_ways i.copy stays yes) }) l h.stands;
  empty = λ task at unused. absurd (both_ways (was_used (state_at now task)) unused (used task at));
  one = λ e. without-one (λ i. i.copy) e l (h.one e);
}

-- a change of each instance
pub changes-home : (tasks : List TaskStatus) (table : ℕ → Attr) (f : Instance → Instance) → ((i : Instance) → (f i).event ≡ i.event)
    → ((c : Context) (i : Instance) → StandsIn tasks table c i → StandsIn tasks table c (f i)) → (n : ℕ) (l : Lists) → IsHome tasks table n l → IsHome tasks table n (change_lists f l)
changes-home tasks table f event k n l h = record {
  stands = change_lists-in (StandsIn tasks table (context_at n)) (StandsIn tasks table (context_at n)) f (k (context_at n)) l h.stands;
  empty = λ task at unused. ap (change_lists f) (h.empty task at unused);
  one = λ e.
      let same : lists_weight (λ i. one_if (is_of_family e) (f i)) l ≡ lists_weight (one_if (is_of_family e)) l = grind (arith, lists-same, one_if) in
      omega (arith, h.one e, change_lists-weighs (one_if (is_of_family e)) f l, same);
}

one_of-event : (b : Bool) (i j : Instance) → j.event ≡ i.event → (if b then j else i).event ≡ i.event
one_of-event true i j h = h
one_of-event false i j h = refl

abbrev pub command : (Own → Own) → List EventNo → Instance → Instance
command f events i = if is_reached events i then record i { own = f i.own } else i

pub command-home : (tasks : List TaskStatus) (table : ℕ → Attr) (f : Own → Own) (events : List EventNo) (n : ℕ) (l : Lists) → IsHome tasks table n l
    → IsHome tasks table n (change_lists (command f events) l)
command-home tasks table f events =
    changes-home tasks table (command f events) (λ i. one_of-event (is_reached events i) i (record i { own = f i.own }) refl)
    (λ c i h. cond_both (is_reached events i) (record i { own = f i.own }) i (StandsIn tasks table c) (λ yes. StandsIn-own tasks table c i (f i.own) h) (λ no. h))

abbrev pub period : EventNo → ℕ → Instance → Instance
period e p i = if is_original e i then record i { attr = record i.attr { period = p } } else i

pub period-home : (tasks : List TaskStatus) (table : ℕ → Attr) (e : EventNo) (p n : ℕ) (l : Lists) → IsHome tasks table n l → IsHome tasks table n (change_lists (period e p) l)
period-home tasks table e p =
    changes-home tasks table (period e p) (λ i. one_of-event (is_original e i) i (record i { attr = record i.attr { period = p } }) refl)
    (λ c i h. cond_both (is_original e i) (record i { attr = record i.attr { period = p } }) i (StandsIn tasks table c)
    (λ is. record {
      attr = ap (of_period p) h.attr;
      original = h.original;
      copied = λ k. record { live = (h.copied k).live; task = (h.copied k).task; ring = (h.copied k).ring; mapped = (h.copied k).mapped };
    }) (λ other. h))

abbrev pub output : EventNo → Option RingNo → Bool → Instance → Instance
output e ring owner i = if is_original e i then record i { ring = ring; mapped = owner } else i

pub output-home : (tasks : List TaskStatus) (table : ℕ → Attr) (e : EventNo) (ring : Option RingNo) (owner : Bool) (n : ℕ) (l : Lists) → IsHome tasks table n l
    → IsHome tasks table n (change_lists (output e ring owner) l)
output-home tasks table e ring owner =
    changes-home tasks table (output e ring owner) (λ i. one_of-event (is_original e i) i (record i { ring = ring; mapped = owner }) refl)
    (λ c i h. cond_both (is_original e i) (record i { ring = ring; mapped = owner }) i (StandsIn tasks table c)
    (λ is. record {
      attr = h.attr;
      original = h.original;
      copied = λ k. absurd (both_ways i.copy (not-true i.copy (and_parts (is_of_family e i) (not i.copy) is).1) k);
    }) (λ other. h))

-- what a fork copies from a task's context to the child's
pub stands_with_task : (tasks : List TaskStatus) (table : ℕ → Attr) (task : TaskNo) (i : Instance) → StandsIn tasks table (context.Task task) i → is_all_tasks i.attr.task ≡ false
stands_with_task tasks table task i h = grind (arith, counts_task)

pub copies-home : (s : Stage) (tasks now : List TaskStatus) (table : ℕ → Attr) (parent : TaskNo) (n : ℕ) → IsOfLive now (context_at n)
    → ((task : TaskNo) → 8 + task.0 ≡ n → was_used (state_at now task) ≡ true)
    → (l : Lists) → InLists (StandsIn tasks table (context.Task parent)) l → ((e : EventNo) → lists_weight (one_if (is_of_family e)) l ≤ 1) → IsHome now table n (copied s l)
copies-home s tasks now table parent n live used l stand one = record {
  stands = copied-in (StandsIn tasks table (context.Task parent)) (StandsIn now table (context_at n)) s
      (λ id i k. record {
        attr = ap (of_period (present_period (original_of s i.event) i.attr)) k.attr;
        original = λ not_copied. absurd (both_ways true not_copied refl);
        copied = λ is. record { live = live; task = stands_with_task tasks table parent i k; ring = refl; mapped = refl };
      }) l stand;
  empty = λ task at unused. absurd (both_ways (was_used (state_at now task)) unused (used task at));
  one = λ e. omega (arith, one e, copied-weighs (one_if (is_of_family e)) (one_if (is_of_family e)) s (λ id i. refl) l, inherited_weight-le (one_if (is_of_family e)) l);
}

-- a table that has the same for each instance
pub IsHome-table : (tasks : List TaskStatus) (table now : ℕ → Attr) (n : ℕ) (l : Lists) → InLists (λ i. now i.event.0 ≡ table i.event.0) l → IsHome tasks table n l → IsHome tasks now n l
IsHome-table tasks table now n l same h = record {
  stands = both-in (λ i. now i.event.0 ≡ table i.event.0) (StandsIn tasks table (context_at n)) (StandsIn tasks now (context_at n))
      (λ i e k. record {
        attr = k.attr ∙ ap (of_period i.attr.period) (sym e);
        original = k.original;
        copied = λ is. record { live = (k.copied is).live; task = (k.copied is).task; ring = (k.copied is).ring; mapped = (k.copied is).mapped };
      }) l same h.stands;
  empty = h.empty;
  one = h.one;
}

-- Where instances stand is what a sound stage says of their places, so each step keeps that.
use Rattle.std.specs.Prelude.{◌≡◌, ℕ, ◌+◌, ◌≤◌, Bool, true, false, not, All, List, [], ◌∷◌, count_by, find, replicate, zero, suc, Option, Some, None, slice_index_or}
use Rattle.std.proofs.Common.{refl, sym, ap, ◌∙◌, arith, inl, inr, subst}
use Rattle.std.proofs.lemmas.Bool.{cases_Bool, both_ways, and_parts, and_from, not_from_false, eq-eqb, eqb-true, false_from_ne_true}
use Rattle.std.proofs.lemmas.Option.{none-some}
use Rattle.perf_base.specs.declared.{numbers.{CpuNo.{CpuNo}, EventNo.{EventNo}, TaskNo.{TaskNo}}, attr.Attr.{Attr}, standing.Context.{Context}}
use Rattle.perf_base.specs.Contexts.{context_of}
use Rattle.perf_base.specs.declared.attr.Kind.TheVariants as kind
use Rattle.perf_base.specs.declared.attr.TaskSel.TheVariants as tasks
use Rattle.perf_base.specs.declared.attr.CpuSel.TheVariants as cpus
use Rattle.perf_base.specs.declared.standing.Context.TheVariants as context
use Rattle.stage_spec.specs.{declared.instance.{Instance.{Instance}, TaskStatus.{TaskStatus}}, Hardware.{Hardware}, Places.{is_all_tasks}}
use Rattle.stage_spec.specs.Stage.{Stage, Lists, lists_of, groups_in, no_groups, place_of, members, is_original, is_of_family, original_of, all_instances, status_of, is_live, task_on, first_stage}
use Rattle.stage_spec.specs.{Verdict.{task_lists, instances_in, reached}, History.{Step, stage_step}}
use Rattle.stage_spec.{specs.Limits.{Limits, IsMachine, IsWithin, HasShape}, proofs.Each.{Each, weaker-Each, InLists, no_groups-In}}
use Rattle.stage_spec.proofs.{Parts.{All-from_Each, Each-from_All, both-Each, all-Each}, Contexts.{At, At-from_each, each-from_At}}
use Rattle.stage_spec.proofs.Inside.{weaker-in, both-in, members-in, InLists-from_members, all_instances-in, InStage-from_all}
use Rattle.stage_laws.{specs.Sound.{IsNumbered, IsCopyOf, IsPlaced, IsSound}, proofs.Counts.{count-cons}}
use Rattle.stage_laws.proofs.{Leaders.{none_counted, found_only, find-first, find-later}, Found.{found_has}}
use Rattle.stage_laws.proofs.Totals.{as_number, total, total-nil, total-cons, total-flat_map, total-by_All, total-replicate, count_by-is-total, one_if}
use Rattle.stage_laws.proofs.Weights.{weigh, lists_weight, group_weight, no_groups-weigh, members-weigh, lists-weigh, weigh-is-count}
use Rattle.stage_laws.proofs.Homes.{context_at, place_of-at, in_context, of_period, counts_all, stands_with_task, IsOfLive, StandsIn, IsHome, no_groups-home}
use Rattle.stage_laws.proofs.{Origins.{IsFamilied}, Housed.{Housed, housed_step}}
use Rattle.stage_spec.proofs.Present.{find-passes}

-- what a place gives of an instance wherever it is
pub record IsTabled (table : ℕ → Attr) (i : Instance) : Type 0 where
  pub attr : i.attr ≡ record (table i.event.0) { period = i.attr.period }
  pub task : i.copy ≡ true → is_all_tasks i.attr.task ≡ false
  pub ring : i.copy ≡ true → i.ring ≡ None
  pub mapped : i.copy ≡ true → i.mapped ≡ false

pub tabled : (table : ℕ → Attr) (s : Stage) → At (IsHome s.tasks table) s → Each (IsTabled table) (all_instances s)
tabled table s h =
    all_instances-in (IsTabled table) s (each-from_At (InLists (IsTabled table)) s
    (λ n. weaker-in (StandsIn s.tasks table (context_at n)) (IsTabled table)
    (λ i k. record { attr = k.attr; task = λ is. (k.copied is).task; ring = λ is. (k.copied is).ring; mapped = λ is. (k.copied is).mapped })
    (slice_index_or s.contexts n no_groups) (h n).stands))

-- a search finds what passes and has what each has
find-Each : {X : Type 0} (P : X → Type 0) (p : X → Bool) (xs : List X) (x : X) → Each P xs → find p xs ≡ Some x → P x × (p x ≡ true)
find-Each P p xs x h e = (found_has P p xs x (All-from_Each P xs h) e, find-passes p xs x e)

found_or_none : {X : Type 0} (o : Option X) → (o ≡ None → ⊥) → (x : X) × (o ≡ Some x)
found_or_none None h = absurd (h refl)
found_or_none (Some x) h = (x, refl)

-- a search that finds nothing counts nothing
none_found : {X : Type 0} (p : X → Bool) (xs : List X) → find p xs ≡ None → count_by p xs ≡ 0
none_found p [] h = refl
none_found p (x ∷ xs) h = elim (cases_Bool (p x)) [
  | inl here ↦ absurd (none-some x (sym h ∙ find-first p x xs here))
  | inr past ↦ count-cons p x xs ∙ (ap (λ b. as_number b + count_by p xs) past ∙ omega (arith, none_found p xs (sym (find-later p x xs past) ∙ h)))
]

counted : {X : Type 0} (p : X → Bool) (xs : List X) → Each (λ x. p x ≡ true → 1 ≤ count_by p xs) xs
unfolding Each
counted p [] = tt
counted p (x ∷ xs) = grind (arith, count-cons, as_number, weaker-Each, counted p xs)

-- of each instance, at its own event
at_own : (P : EventNo → Instance → Type 0) (xs : List Instance) → ((e : EventNo) → Each (P e) xs) → Each (λ i. P i.event i) xs
at_own P xs h = Each-from_All (λ i. P i.event i) xs (λ k d within. All-from_Each (P (slice_index_or xs k d).event) xs (h (slice_index_or xs k d).event) k d within)

family_counted : (s : Stage) → Each (λ i. 1 ≤ weigh (one_if (is_of_family i.event)) s) (all_instances s)
family_counted s =
    weaker-Each (λ i. is_of_family i.event i ≡ true → 1 ≤ count_by (is_of_family i.event) (all_instances s)) (λ i. 1 ≤ weigh (one_if (is_of_family i.event)) s)
    (λ i k. omega (arith, k (eq-eqb i.event.0 i.event.0 refl), weigh-is-count (is_of_family i.event) s)) (all_instances s)
    (at_own (λ e i. is_of_family e i ≡ true → 1 ≤ count_by (is_of_family e) (all_instances s)) (all_instances s) (λ e. counted (is_of_family e) (all_instances s)))

-- the original of a copy
abbrev pub HasOriginal : Stage → Instance → Type 0
HasOriginal s i = i.copy ≡ true → (original : Instance) × (original_of s i.event ≡ Some original) × IsCopyOf i original

copy_of-found : (table : ℕ → Attr) (s : Stage) → Each (IsTabled table) (all_instances s) → (i o : Instance) → IsTabled table i → i.copy ≡ true → original_of s i.event ≡ Some o → IsCopyOf i o
copy_of-found table s all i o k is found = grind (arith, find-Each, eqb-true, and_parts, of_period)

copy_original : (table : ℕ → Attr) (s : Stage) → IsFamilied s → Each (IsTabled table) (all_instances s) → (i : Instance) → IsTabled table i
    → 1 ≤ weigh (one_if (is_of_family i.event)) s → HasOriginal s i
copy_original table s families all i k some is =
    let found : (o : Instance) × (original_of s i.event ≡ Some o) = found_or_none (original_of s i.event)
    (λ none. absurd (omega (arith, some, families i.event (sym (weigh-is-count (is_original i.event) s) ∙ none_found (is_original i.event) (all_instances s) none)))) in
    (found.0, found.1, copy_of-found table s all i found.0 k is found.1)

-- what a processor reaches: its own instances and those of its task
pub reached-weighs : (f : Instance → ℕ) (s : Stage) (cpu : CpuNo) → total f (reached s cpu) ≡ lists_weight f (lists_of s (context.Processor cpu)) + lists_weight f (task_lists s (task_on s cpu))
reached-weighs f s cpu = omega (arith, group_weight, total, members-weigh, total-flat_map, total-cons, total-nil)

none-weighs : (test : Instance → Bool) (l : Lists) → InLists (λ i. test i ≡ false) l → lists_weight (one_if test) l ≡ 0
none-weighs test l h =
    sym (lists-weigh (one_if test) l)
    ∙ total-by_All (one_if test) (λ i. test i ≡ false) (λ i none. ap as_number none) (members (groups_in l))
    (All-from_Each (λ i. test i ≡ false) (members (groups_in l)) (members-in (λ i. test i ≡ false) l h))

of_table : (tasks : List TaskStatus) (table : ℕ → Attr) (c : Context) (e : EventNo) (i : Instance) → StandsIn tasks table c i → is_of_family e i ≡ true
    → is_all_tasks i.attr.task ≡ is_all_tasks (table e.0).task
of_table tasks table c e i k here = ap (λ a. is_all_tasks a.task) k.attr ∙ ap (λ m. is_all_tasks (table m).task) (eqb-true i.event.0 e.0 here)

task_none : (table : ℕ → Attr) (s : Stage) (e : EventNo) → ((c : Context) → InLists (StandsIn s.tasks table c) (lists_of s c)) → is_all_tasks (table e.0).task ≡ true → (to : Option TaskNo)
    → lists_weight (one_if (is_of_family e)) (task_lists s to) ≡ 0
task_none table s e h all None = no_groups-weigh (one_if (is_of_family e))
task_none table s e h all (Some task) =
    none-weighs (is_of_family e) (lists_of s (context.Task task))
    (weaker-in (StandsIn s.tasks table (context.Task task)) (λ i. is_of_family e i ≡ false)
    (λ i k. false_from_ne_true (is_of_family e i)
    (λ here. both_ways (is_all_tasks i.attr.task) (stands_with_task s.tasks table task i k) (of_table s.tasks table (context.Task task) e i k here ∙ all)))
    (lists_of s (context.Task task)) (h (context.Task task)))

cpu_none : (table : ℕ → Attr) (s : Stage) (e : EventNo) → ((c : Context) → InLists (StandsIn s.tasks table c) (lists_of s c)) → is_all_tasks (table e.0).task ≡ false → (cpu : CpuNo)
    → lists_weight (one_if (is_of_family e)) (lists_of s (context.Processor cpu)) ≡ 0
cpu_none table s e h one_task cpu =
    none-weighs (is_of_family e) (lists_of s (context.Processor cpu))
    (weaker-in (StandsIn s.tasks table (context.Processor cpu)) (λ i. is_of_family e i ≡ false)
    (λ i k. false_from_ne_true (is_of_family e i)
    (λ here. both_ways (is_all_tasks i.attr.task) (of_table s.tasks table (context.Processor cpu) e i k here ∙ one_task)
    (counts_all i.attr cpu (k.original (false_from_ne_true i.copy (λ is. (k.copied is).live))))))
    (lists_of s (context.Processor cpu)) (h (context.Processor cpu)))

one_at : (table : ℕ → Attr) (s : Stage) → At (IsHome s.tasks table) s → (e : EventNo) (to : Option TaskNo) → lists_weight (one_if (is_of_family e)) (task_lists s to) ≤ 1
one_at table s h e None = omega (arith, no_groups-weigh (one_if (is_of_family e)))
one_at table s h e (Some task) = (h (8 + task.0)).one e

pub placed-from_housed : (hw : Hardware) (s : Stage) → HasShape hw s → Housed s → IsPlaced s
placed-from_housed hw s shape h =
    let table : ℕ → Attr = h.table in
    let homes : At (IsHome s.tasks table) s = h.housed.homes in
    let stands : (c : Context) → InLists (StandsIn s.tasks table c) (lists_of s c) = in_context (StandsIn s.tasks table) s shape.contexts (λ n. (homes n).stands) in
    let each : (c : Context) (P : Instance → Type 0) → ((i : Instance) → StandsIn s.tasks table c i → P i) → All P (instances_in s c) =
    λ c P k. All-from_Each P (instances_in s c) (weaker-Each (StandsIn s.tasks table c) P k (instances_in s c) (members-in (StandsIn s.tasks table c) (lists_of s c) (stands c))) in
    let all : Each (IsTabled table) (all_instances s) = tabled table s homes in
    record {
      originals = λ c. each c (λ i. i.copy ≡ false → context_of i.attr ≡ c) (λ i k. k.original);
      no_copies = λ cpu. each (context.Processor cpu) (λ i. i.copy ≡ false) (λ i k. false_from_ne_true i.copy (λ is. (k.copied is).live));
      live_copies = λ task gone. each (context.Task task) (λ i. i.copy ≡ false)
          (λ i k. false_from_ne_true i.copy (λ is. both_ways (is_live (status_of s task).state) gone (k.copied is).live));
      unknown = λ task unused. (homes (8 + task.0)).empty task refl unused;
      one_of_family = λ c e. omega (arith, count_by-is-total (is_of_family e) (instances_in s c), lists-weigh (one_if (is_of_family e)) (lists_of s c), (homes (place_of c)).one e);
      one_reached = λ cpu e. elim (cases_Bool (is_all_tasks (table e.0).task)) [
        | inl all_tasks ↦ omega (
          arith,
          count_by-is-total (is_of_family e) (reached s cpu),
          reached-weighs (one_if (is_of_family e)) s cpu,
          task_none table s e stands all_tasks (task_on s cpu),
          (homes (place_of (context.Processor cpu))).one e,
        )
        | inr one_task ↦ omega (
          arith,
          count_by-is-total (is_of_family e) (reached s cpu),
          reached-weighs (one_if (is_of_family e)) s cpu,
          cpu_none table s e stands one_task cpu,
          one_at table s homes e (task_on s cpu),
        )
      ];
      of_original = All-from_Each (HasOriginal s) (all_instances s)
          (both-Each (IsTabled table) (λ i. 1 ≤ weigh (one_if (is_of_family i.event)) s) (HasOriginal s)
          (copy_original table s h.housed.families all) (all_instances s) all (family_counted s));
    }

-- and back
abbrev no_attr : Attr
no_attr = record { kind = kind.Dummy; task = tasks.All; cpu = cpus.Any; period = 0; sample = 0; format = 0; flags = record { 0 = 0 } }

abbrev attr_in : Option Instance → Attr
attr_in None = no_attr
attr_in (Some i) = i.attr

abbrev table_of : Stage → ℕ → Attr
table_of s m = attr_in (original_of s (record { 0 = m }))

abbrev IsItself : Stage → Instance → Type 0
IsItself s i = i.copy ≡ false → original_of s i.event ≡ Some i

itself : (s : Stage) → IsNumbered s → Each (IsItself s) (all_instances s)
itself s n =
    weaker-Each (λ i. is_original i.event i ≡ true → original_of s i.event ≡ Some i) (IsItself s)
    (λ i k no. k (and_from (is_of_family i.event i) (not i.copy) (eq-eqb i.event.0 i.event.0 refl) (not_from_false i.copy no))) (all_instances s)
    (at_own (λ e i. is_original e i ≡ true → original_of s e ≡ Some i) (all_instances s) (λ e. found_only (is_original e) (all_instances s) (n.one_original e)))

attr_of_slot : (s : Stage) (i o : Instance) → original_of s i.event ≡ Some o → i.attr ≡ record o.attr { period = i.attr.period }
    → i.attr ≡ record (table_of s i.event.0) { period = i.attr.period }
attr_of_slot s i o found same = same ∙ ap (of_period i.attr.period) (sym (ap attr_in found))

tabled-from : (s : Stage) (i : Instance) → IsItself s i → HasOriginal s i → IsTabled (table_of s) i
tabled-from s i own copy = grind (arith, attr_of_slot)

at_places : (P : Context → Instance → Type 0) (s : Stage) → ((c : Context) → Each (P c) (instances_in s c)) → At (λ n. InLists (P (context_at n))) s
at_places P s h n =
    subst (λ k. InLists (P (context_at n)) (slice_index_or s.contexts k no_groups)) (place_of-at n)
    (InLists-from_members (P (context_at n)) (lists_of s (context_at n)) (h (context_at n)))

abbrev IsLiveCopy : Stage → Context → Instance → Type 0
IsLiveCopy s c i = i.copy ≡ true → IsOfLive s.tasks c

live_copies : (s : Stage) → IsPlaced s → (c : Context) → Each (IsLiveCopy s c) (instances_in s c)
live_copies s h (context.Processor cpu) = grind (arith, weaker-Each, both_ways, Each-from_All)
live_copies s h (context.Task task) = grind (arith, all-Each, weaker-Each, both_ways, Each-from_All)

abbrev IsOriginalOf : Context → Instance → Type 0
IsOriginalOf c i = i.copy ≡ false → context_of i.attr ≡ c

-- a slot without an original has no copy, since each copy's original is there
none_of_family : (s : Stage) (e : EventNo) → Each (λ i. is_original e i ≡ false) (all_instances s) → (i : Instance) → is_original e i ≡ false → HasOriginal s i → is_of_family e i ≡ false
none_of_family s e none i other copy = grind (arith, false_from_ne_true, find-Each, both_ways, eqb-true, and_from, not_from_false)

familied-from : (s : Stage) → IsPlaced s → IsFamilied s
familied-from s h e none =
    let no_original : Each (λ i. is_original e i ≡ false) (all_instances s) = none_counted (is_original e) (all_instances s) (weigh-is-count (is_original e) s ∙ none) in
    let no_member : Each (λ i. is_of_family e i ≡ false) (all_instances s) = search (both-Each, none_of_family, Each-from_All) in
    sym (weigh-is-count (is_of_family e) s) ∙ (count_by-is-total (is_of_family e) (all_instances s)
    ∙ total-by_All (one_if (is_of_family e)) (λ i. is_of_family e i ≡ false) (λ i no. ap as_number no) (all_instances s)
    (All-from_Each (λ i. is_of_family e i ≡ false) (all_instances s) no_member))

pub housed-from_placed : (s : Stage) → IsNumbered s → IsPlaced s → Housed s
housed-from_placed s n h =
    let table : ℕ → Attr = table_of s in
    let all : Each (IsTabled table) (all_instances s) = search (both-Each, tabled-from, itself, Each-from_All) in
    let here : At (λ k. InLists (IsTabled table)) s = At-from_each (InLists (IsTabled table)) (no_groups-In (IsTabled table)) s (InStage-from_all (IsTabled table) s all) in
    let originals : At (λ k. InLists (IsOriginalOf (context_at k))) s = at_places IsOriginalOf s (λ c. Each-from_All (IsOriginalOf c) (instances_in s c) (h.originals c)) in
    let live : At (λ k. InLists (IsLiveCopy s (context_at k))) s = at_places (IsLiveCopy s) s (live_copies s h) in
    record {
      table = table;
      housed = record {
        homes = λ k. record {
          stands = both-in (λ i. IsTabled table i × IsOriginalOf (context_at k) i) (IsLiveCopy s (context_at k)) (StandsIn s.tasks table (context_at k))
              (λ i two lives. record {
                attr = two.0.attr;
                original = two.1;
                copied = λ is. record { live = lives is; task = two.0.task is; ring = two.0.ring is; mapped = two.0.mapped is };
              }) (slice_index_or s.contexts k no_groups)
              (both-in (IsTabled table) (IsOriginalOf (context_at k)) (λ i. IsTabled table i × IsOriginalOf (context_at k) i) (λ i a b. (a, b))
              (slice_index_or s.contexts k no_groups) (here k) (originals k))
              (live k);
          empty = λ task at unused. ap (λ m. slice_index_or s.contexts m no_groups) (sym at) ∙ h.unknown task unused;
          one = λ e.
              let at : lists_weight (one_if (is_of_family e)) (lists_of s (context_at k)) ≤ 1 =
              omega (
                arith,
                h.one_of_family (context_at k) e,
                count_by-is-total (is_of_family e) (instances_in s (context_at k)),
                lists-weigh
                    (one_if (is_of_family e)) (lists_of s (context_at k)),
              ) in
              subst (λ m. lists_weight (one_if (is_of_family e)) (slice_index_or s.contexts m no_groups) ≤ 1) (place_of-at k) at;
        };
        families = familied-from s h;
      };
    }

pub placed_step : (l : Limits) (hw : Hardware) (s : Stage) (x : Step) → IsMachine l hw → IsWithin l x → IsSound hw s → HasShape hw (stage_step hw s x) → IsPlaced (stage_step hw s x)
placed_step l hw s x machine within sound shape = grind (arith, placed-from_housed, housed_step, housed-from_placed)

-- at first there is none
pub nowhere : (count n : ℕ) → slice_index_or (replicate count no_groups) n no_groups ≡ no_groups
nowhere zero n = refl
nowhere (suc count) zero = refl
nowhere (suc count) (suc n) = nowhere count n

first-housed : (cpus : ℕ) (declared : List TaskNo) → Housed (first_stage cpus declared)
unfolding first_stage
first-housed cpus declared = record {
  table = λ m. no_attr;
  housed = record {
    homes = λ n. rw (nowhere 72 n) (no_groups-home (first_stage cpus declared).tasks (λ m. no_attr) n);
    families = λ e none. total-replicate (lists_weight (one_if (is_of_family e))) 72 no_groups (no_groups-weigh (one_if (is_of_family e)));
  };
}

pub placed_first : (hw : Hardware) (cpus : ℕ) (declared : List TaskNo) → HasShape hw (first_stage cpus declared) → IsPlaced (first_stage cpus declared)
placed_first hw cpus declared shape = placed-from_housed hw (first_stage cpus declared) shape (first-housed cpus declared)

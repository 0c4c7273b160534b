-- What a line leaves of the processors that it does not touch.
use Rattle.std.specs.Prelude.{◌≡◌, ◌≢◌, ℕ, ◌==◌, ◌&&◌, Bool, true, false, not, List, [], ◌∷◌, ◌++◌, map, flat_map, length, Option, Some, None, slice_index_or, if◌then◌else◌}
use Rattle.std.{specs.List.{list_any}, proofs.Common.{arith, refl, sym, ap, ◌∙◌, append-nil}}
use Rattle.std.proofs.lemmas.Bool.{eq-eqb, eqb-false, false≢true, or_parts, and_parts, not-true, not-false, false_from_ne_true, Decides.{nat_tests}}
use Rattle.std.proofs.{lemmas.{List.Folds.{list_any-append}, Grind.{flat_map-append}}, Math.ListN.{get_or-map}}
use Rattle.perf_base.specs.declared.{numbers.{CpuNo.{CpuNo}, EventNo.{EventNo}, RingNo.{RingNo}, TaskNo.{TaskNo}}, attr.Attr.{Attr}}
use Rattle.perf_base.specs.declared.{attr.{TaskSel.{TaskSel}, CpuSel.{CpuSel}}, standing.{Context.{Context}, Own.{Own}}}
use Rattle.perf_base.specs.Contexts.{context_of, context_by}
use Rattle.perf_base.specs.declared.attr.TaskSel.TheVariants as tasks
use Rattle.perf_base.specs.declared.attr.CpuSel.TheVariants as cpus
use Rattle.perf_base.specs.declared.standing.Context.TheVariants as context
use Rattle.stage_spec.specs.{declared.instance.Instance.{Instance}, Hardware.{Hardware}, Places.{is_same_task, is_same_cpu}, Refusals.{holds_of}}
use Rattle.stage_spec.specs.Stage.{Stage, Group, members_of, alone, Lists, lists_of, no_groups, groups_in, all_groups, members, place_of, task_on, is_task, change_group, change_lists, change_each, change_context, is_original, is_of_family, original_of}
use Rattle.stage_spec.specs.{Flags.{is_pinned}, Verdict.{task_lists, reached, instances_in}}
use Rattle.stage_spec.specs.Opening.{opened, add_group, joined, join_group, join_lists, new_original, open_refusal}
use Rattle.stage_spec.specs.{Commands.{is_reached, command_each, with_period}, Mapping.{mapped_to, output_to, ring_of}}
use Rattle.stage_spec.{specs.Closing.{staying, kept_group, freed_groups, without, closed}, proofs.Each.{Each, head-Each, none-Each, get_or-Each}}
use Rattle.stage_spec.proofs.Parts.{Each-from_All, both-Each, front-Each, back-Each, joined-Each}
use Rattle.stage_laws.{specs.{Sound.{IsSound}, Standings.{briefs, KeepsBrief}, Narrowing.{has_context, reaches}}, proofs.Leaders.{IsLed, all_led}}
use Rattle.stage_laws.proofs.{Accepted.{IsAccepted, accepted}, Briefs.{same_briefs}, Others.{ReachesSame, own-changed, task-changed}}

-- a change of every context that leaves those of a processor
pub mapped-reaches : (f : Lists → Lists) (s : Stage) (cpu : CpuNo) → f no_groups ≡ no_groups
    → f (lists_of s (context.Processor cpu)) ≡ lists_of s (context.Processor cpu)
    → f (task_lists s (task_on s cpu)) ≡ task_lists s (task_on s cpu)
    → ReachesSame s (record s { contexts = map f s.contexts }) cpu
mapped-reaches f s cpu none own task =
    let at : (c : Context) → lists_of (record s { contexts = map f s.contexts }) c ≡ f (lists_of s c) =
    λ c. ap (slice_index_or (map f s.contexts) (place_of c)) (sym none) ∙ get_or-map f s.contexts (place_of c) no_groups in
    record {
      running = refl;
      own = at (context.Processor cpu) ∙ own;
      task = λ here on. at (context.Task here) ∙ (ap (λ to. f (task_lists s to)) (sym on) ∙ (task ∙ ap (task_lists s) on));
    }

-- none of the instances of a context passes a test
pub record NonePass (test : Instance → Bool) (l : Lists) : Type 0 where
  pub pinned : list_any test (members l.pinned) ≡ false
  pub flexible : list_any test (members l.flexible) ≡ false

members-parts : (test : Instance → Bool) (xs ys : List Group) → list_any test (members (xs ++ ys)) ≡ false → (list_any test (members xs) ≡ false) × (list_any test (members ys) ≡ false)
members-parts test xs ys h = grind (arith, nat_tests, or_parts, flat_map-append, list_any-append)

pub none-reached : (test : Instance → Bool) (s : Stage) (cpu : CpuNo) → list_any test (reached s cpu) ≡ false
    → NonePass test (lists_of s (context.Processor cpu)) × NonePass test (task_lists s (task_on s cpu))
none-reached test s cpu h =
    let own : Lists = lists_of s (context.Processor cpu) in
    let task : Lists = task_lists s (task_on s cpu) in
    let one : (list_any test (members own.pinned) ≡ false) × (list_any test (members (task.pinned ++ (own.flexible ++ (task.flexible ++ [])))) ≡ false) =
    members-parts test own.pinned (task.pinned ++ (own.flexible ++ (task.flexible ++ []))) h in
    let two : (list_any test (members task.pinned) ≡ false) × (list_any test (members (own.flexible ++ (task.flexible ++ []))) ≡ false) =
    members-parts test task.pinned (own.flexible ++ (task.flexible ++ [])) one.1 in
    let three : (list_any test (members own.flexible) ≡ false) × (list_any test (members (task.flexible ++ [])) ≡ false) =
    members-parts test own.flexible (task.flexible ++ []) two.1 in
    (record { pinned = one.0; flexible = three.0 }, record { pinned = two.0; flexible = (members-parts test task.flexible [] three.1).0 })

-- neither of the first group nor of the others
record NoneIn (test : Instance → Bool) (g : Group) (groups : List Group) : Type 0 where
  pub leader : test g.leader ≡ false
  pub siblings : list_any test g.siblings ≡ false
  pub others : list_any test (members groups) ≡ false

none-in : (test : Instance → Bool) (g : Group) (groups : List Group) → list_any test (members (g ∷ groups)) ≡ false → NoneIn test g groups
none-in test g groups h =
    let both : (list_any test (members_of g ++ []) ≡ false) × (list_any test (members groups) ≡ false) = members-parts test (g ∷ []) groups h in
    let here : (test g.leader ≡ false) × (list_any test g.siblings ≡ false) = grind (arith, nat_tests, or_parts, append-nil) in
    record { leader = here.0; siblings = here.1; others = both.1 }

-- a change of instances that pass a test, where none does
list-fixed : (test : Instance → Bool) (f : Instance → Instance) → ((i : Instance) → test i ≡ false → f i ≡ i) → (xs : List Instance) → list_any test xs ≡ false → map f xs ≡ xs
list-fixed test f same [] h = refl
list-fixed test f same (x ∷ xs) h =
    let both : (test x ≡ false) × (list_any test xs ≡ false) = or_parts (test x) (list_any test xs) h in
    rw (same x both.0, list-fixed test f same xs both.1) refl

groups-fixed : (test : Instance → Bool) (f : Instance → Instance) → ((i : Instance) → test i ≡ false → f i ≡ i) → (groups : List Group) → list_any test (members groups) ≡ false
    → map (change_group f) groups ≡ groups
groups-fixed test f same [] h = refl
groups-fixed test f same (g ∷ groups) h =
    let none : NoneIn test g groups = none-in test g groups h in
    let fixed : change_group f g ≡ g = rw (same g.leader none.leader, list-fixed test f same g.siblings none.siblings) refl in
    rw (fixed, groups-fixed test f same groups none.others) refl

lists-fixed : (test : Instance → Bool) (f : Instance → Instance) → ((i : Instance) → test i ≡ false → f i ≡ i) → (l : Lists) → NonePass test l → change_lists f l ≡ l
lists-fixed test f same l h = rw (groups-fixed test f same l.pinned h.pinned, groups-fixed test f same l.flexible h.flexible) refl

pub change-reaches : (test : Instance → Bool) (f : Instance → Instance) → ((i : Instance) → test i ≡ false → f i ≡ i) → (s : Stage) (cpu : CpuNo)
    → list_any test (reached s cpu) ≡ false → ReachesSame s (change_each f s) cpu
change-reaches test f same s cpu h =
    let none : NonePass test (lists_of s (context.Processor cpu)) × NonePass test (task_lists s (task_on s cpu)) = none-reached test s cpu h in
    mapped-reaches (change_lists f) s cpu refl (lists-fixed test f same (lists_of s (context.Processor cpu)) none.0) (lists-fixed test f same (task_lists s (task_on s cpu)) none.1)

unless-test : {X : Type 0} (b : Bool) (x y : X) → b ≡ false → (if b then x else y) ≡ y
unless-test b x y h = rw h refl

pub command-reaches : (f : Own → Own) (events : List EventNo) (s : Stage) (cpu : CpuNo) → reaches s events cpu ≡ false → ReachesSame s (command_each f events s) cpu
unfolding command_each
command-reaches f events s cpu h =
    change-reaches (is_reached events) (λ i. if is_reached events i then record i { own = f i.own } else i) (λ i. unless-test (is_reached events i) (record i { own = f i.own }) i) s cpu h

-- closing, where none goes
pub staying-all : (goes : Instance → Bool) (xs : List Instance) → list_any goes xs ≡ false → staying goes xs ≡ xs
staying-all goes [] h = refl
staying-all goes (x ∷ xs) h =
    let both : (goes x ≡ false) × (list_any goes xs ≡ false) = or_parts (goes x) (list_any goes xs) h in
    rw both.0 (ap (λ ys. x ∷ ys) (staying-all goes xs both.1))

abbrev either_groups : Bool → List Group → List Group → List Group
either_groups b here there = elim b [ true ↦ here | false ↦ there ]

kept-all : (goes : Instance → Bool) (groups : List Group) → list_any goes (members groups) ≡ false → flat_map (kept_group goes) groups ≡ groups
kept-all goes [] h = refl
kept-all goes (g ∷ groups) h =
    let none : NoneIn goes g groups = none-in goes g groups h in
    grind (arith, nat_tests, staying-all, kept-all goes groups none.others)

freed-none : (goes : Instance → Bool) (groups : List Group) → list_any goes (members groups) ≡ false → flat_map (freed_groups goes) groups ≡ []
freed-none goes [] h = refl
freed-none goes (g ∷ groups) h =
    let none : NoneIn goes g groups = none-in goes g groups h in
    ap (λ b. either_groups b (map alone (staying goes g.siblings)) [] ++ flat_map (freed_groups goes) groups) none.leader ∙ freed-none goes groups none.others

pub without-none : (goes : Instance → Bool) (l : Lists) → NonePass goes l → without goes l ≡ l
without-none goes l h = grind (arith, nat_tests, flat_map-append, freed-none, kept-all, append-nil)

none-weaker : (p q : Instance → Bool) → ((i : Instance) → p i ≡ false → q i ≡ false) → (xs : List Instance) → list_any p xs ≡ false → list_any q xs ≡ false
none-weaker p q k [] h = refl
none-weaker p q k (x ∷ xs) h =
    let both : (p x ≡ false) × (list_any p xs ≡ false) = or_parts (p x) (list_any p xs) h in
    rw (k x both.0) (none-weaker p q k xs both.1)

pub close-reaches : (e : EventNo) (s : Stage) (cpu : CpuNo) → reaches s (e ∷ []) cpu ≡ false → ReachesSame s (closed e s) cpu
unfolding closed
close-reaches e s cpu h =
    let none : NonePass (is_of_family e) (lists_of s (context.Processor cpu)) × NonePass (is_of_family e) (task_lists s (task_on s cpu)) =
    none-reached (is_of_family e) s cpu (none-weaker (is_reached (e ∷ [])) (is_of_family e) (λ i away. (or_parts (is_of_family e i) false away).0) (reached s cpu) h) in
    search (nat_tests, mapped-reaches, without-none)

-- opening an event elsewhere
pub other-number : (m n : ℕ) → (m == n) ≡ false → n ≢ m
other-number m n h same = eqb-false m n h (sym same)

pub context-changed : (c : Context) (f : Lists → Lists) (s : Stage) (cpu : CpuNo) → length s.contexts ≡ 72 → has_context s cpu c ≡ false → ReachesSame s (change_context c f s) cpu
context-changed (context.Processor other) f s cpu size away = own-changed other cpu f s size (other-number other.0 cpu.0 away)
context-changed (context.Task task) f s cpu size away =
    task-changed task cpu f s size (λ here on same. other-number here.0 task.0 (ap (λ to. is_task to task) (sym on) ∙ away) (sym same))

abbrev task_numbered : ℕ → Context
task_numbered n = context.Task (record { 0 = n })

abbrev cpu_numbered : ℕ → Context
cpu_numbered n = context.Processor (record { 0 = n })

same_place : (t u : TaskSel) (c d : CpuSel) → is_same_task t u ≡ true → is_same_cpu c d ≡ true → context_by t c ≡ context_by u d
same_place tasks.All tasks.All cpus.Any cpus.Any h k = refl
same_place tasks.All tasks.All cpus.Any (cpus.One other) h k = absurd (false≢true k)
same_place tasks.All tasks.All (cpus.One cpu) cpus.Any h k = absurd (false≢true k)
same_place tasks.All tasks.All (cpus.One cpu) (cpus.One other) h k = let same : cpu.0 ≡ other.0 = grind (arith, nat_tests, k) in ap cpu_numbered same
same_place tasks.All (tasks.One other) c d h k = absurd (false≢true h)
same_place (tasks.One task) tasks.All c d h k = absurd (false≢true h)
same_place (tasks.One task) (tasks.One other) c d h k = let same : task.0 ≡ other.0 = grind (arith, nat_tests, h) in ap task_numbered same

-- a group in a context of a processor that an open does not touch is not the one that the event joins
not-joined : (hw : Hardware) (s : Stage) (a : Attr) (e : EventNo) (cpu : CpuNo) (c : Context) → IsSound hw s
    → holds_of (λ i. not (is_same_task i.attr.task a.task && is_same_cpu i.attr.cpu a.cpu)) (original_of s e) ≡ false
    → has_context s cpu (context_of a) ≡ false → has_context s cpu c ≡ true → Each (λ g. is_original e g.leader ≡ false) (groups_in (lists_of s c))
not-joined hw s a e cpu c sound here away reached =
    let led : Each (IsLed e (all_groups s)) (groups_in (lists_of s c)) =
    get_or-Each (λ l. Each (IsLed e (all_groups s)) (groups_in l)) s.contexts (place_of c) no_groups
    (joined-Each (IsLed e (all_groups s)) groups_in s.contexts (all_led e (all_groups s) (sound.numbered.one_original e))) (none-Each (IsLed e (all_groups s))) in
    let at : Each (λ g. Each (λ i. i.copy ≡ false → context_of i.attr ≡ c) (members_of g)) (groups_in (lists_of s c)) =
    joined-Each (λ i. i.copy ≡ false → context_of i.attr ≡ c) members_of (groups_in (lists_of s c))
    (Each-from_All (λ i. i.copy ≡ false → context_of i.attr ≡ c) (instances_in s c) (sound.placed.originals c)) in
    both-Each (IsLed e (all_groups s)) (λ g. Each (λ i. i.copy ≡ false → context_of i.attr ≡ c) (members_of g)) (λ g. is_original e g.leader ≡ false)
    (λ g leads places. false_from_ne_true (is_original e g.leader) (λ original.
    let copy : g.leader.copy ≡ false = not-true g.leader.copy (and_parts (is_of_family e g.leader) (not g.leader.copy) original).1 in
    let test : Instance → Bool = λ i. not (is_same_task i.attr.task a.task && is_same_cpu i.attr.cpu a.cpu) in
    let same : (is_same_task g.leader.attr.task a.task && is_same_cpu g.leader.attr.cpu a.cpu) ≡ true = grind (arith, nat_tests, not-false) in
    let both : (is_same_task g.leader.attr.task a.task ≡ true) × (is_same_cpu g.leader.attr.cpu a.cpu ≡ true) = grind (arith, nat_tests, and_parts) in
    let there : context_of a ≡ c = grind (arith, nat_tests, same_place, head-Each) in
    false≢true (sym away ∙ (ap (has_context s cpu) there ∙ reached)))) (groups_in (lists_of s c)) led at

join-none : (e : EventNo) (i : Instance) (groups : List Group) → Each (λ g. is_original e g.leader ≡ false) groups → map (join_group e i) groups ≡ groups
unfolding Each
join-none e i [] h = refl
join-none e i (g ∷ groups) h = rw (unless-test (is_original e g.leader) (joined i g) g h.0, join-none e i groups h.1) refl

join_lists-none : (e : EventNo) (i : Instance) (l : Lists) → Each (λ g. is_original e g.leader ≡ false) (groups_in l) → join_lists e i l ≡ l
join_lists-none e i l h = grind (arith, nat_tests, join-none, front-Each, back-Each)

task-join : (hw : Hardware) (s : Stage) (a : Attr) (e : EventNo) (i : Instance) (cpu : CpuNo) (to : Option TaskNo) → IsSound hw s
    → holds_of (λ i. not (is_same_task i.attr.task a.task && is_same_cpu i.attr.cpu a.cpu)) (original_of s e) ≡ false
    → has_context s cpu (context_of a) ≡ false → task_on s cpu ≡ to → join_lists e i (task_lists s to) ≡ task_lists s to
task-join hw s a e i cpu None sound here away on = refl
task-join hw s a e i cpu (Some task) sound here away on =
    let there : has_context s cpu (context.Task task) ≡ true = ap (λ to. is_task to task) on ∙ eq-eqb task.0 task.0 refl in
    join_lists-none e i (lists_of s (context.Task task)) (not-joined hw s a e cpu (context.Task task) sound here away there)

pub open-reaches : (hw : Hardware) (s : Stage) (slot : EventNo) (a : Attr) (leader : Option EventNo) (cpu : CpuNo) → IsSound hw s → open_refusal hw s slot a leader ≡ None
    → has_context s cpu (context_of a) ≡ false → ReachesSame s (opened s slot a leader) cpu
unfolding opened
open-reaches hw s slot a None cpu sound free away =
    let i : Instance = new_original s slot a in
    let h : ReachesSame s (change_context (context_of a) (add_group (is_pinned a) (alone i)) s) cpu = search (nat_tests, context-changed) in
    record { running = h.running; own = h.own; task = h.task }
open-reaches hw s slot a (Some e) cpu sound free away =
    let i : Instance = new_original s slot a in
    let fine : IsAccepted hw s slot a (Some e) = accepted hw s slot a (Some e) free in
    let h : ReachesSame s (record s { contexts = map (join_lists e i) s.contexts }) cpu =
    mapped-reaches (join_lists e i) s cpu refl
    (join_lists-none e i (lists_of s (context.Processor cpu)) (not-joined hw s a e cpu (context.Processor cpu) sound fine.here away (eq-eqb cpu.0 cpu.0 refl)))
    (task-join hw s a e i cpu (task_on s cpu) sound fine.here away refl) in
    record { running = h.running; own = h.own; task = h.task }

-- a period and another ring
if-keeps : {X : Type 0} (k : Instance → X) (b : Bool) (i j : Instance) → k i ≡ k j → k (if b then i else j) ≡ k j
if-keeps k true i j h = h
if-keeps k false i j h = refl

brief-if : (test : Instance → Bool) (f : Instance → Instance) → KeepsBrief f → KeepsBrief (λ i. if test i then f i else i)
brief-if test f h = grind (arith, nat_tests, if-keeps)

pub period-briefs : (hw : Hardware) (e : EventNo) (period : ℕ) (s : Stage) (cpu : CpuNo) → briefs hw (with_period e period s) cpu ≡ briefs hw s cpu
unfolding with_period
period-briefs hw e period s cpu = grind (arith, nat_tests, same_briefs, brief-if)

ring-keeps : (e : EventNo) (ring : Option RingNo) (owner : Bool) → KeepsBrief (λ i. if is_original e i then record i { ring = ring; mapped = owner } else i)
ring-keeps e ring owner = grind (arith, nat_tests, brief-if)

pub map-briefs : (hw : Hardware) (e : EventNo) (ring : RingNo) (s : Stage) (cpu : CpuNo) → briefs hw (mapped_to e ring s) cpu ≡ briefs hw s cpu
unfolding mapped_to
map-briefs hw e ring s cpu = same_briefs hw cpu s (λ i. if is_original e i then record i { ring = Some ring; mapped = true } else i) (ring-keeps e (Some ring) true)

pub output-briefs : (hw : Hardware) (e f : EventNo) (s : Stage) (cpu : CpuNo) → briefs hw (output_to e f s) cpu ≡ briefs hw s cpu
unfolding output_to
output-briefs hw e f s cpu = same_briefs hw cpu s (λ i. if is_original e i then record i { ring = ring_of s f; mapped = false } else i) (ring-keeps e (ring_of s f) false)

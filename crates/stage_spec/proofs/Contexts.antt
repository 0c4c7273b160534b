-- A law of the groups at each place that each change of a context keeps holds after settling, ticks, closes, exits and
-- switches.
use Rattle.std.specs.Prelude.{◌≡◌, ℕ, zero, suc, ◌<◌, Bool, true, false, List, [], ◌∷◌, ◌++◌, length, map, Option, Some, None, slice_index_or}
use Rattle.std.{proofs.Common.{refl, arith, subst, get_or, set, get_or-set_same, get_or-set_other}}
use Rattle.std.proofs.{lemmas.{Bool.{cases_lt}, List.{get_or_past}}, Math.Seq.{set_out}}
use Rattle.perf_base.specs.declared.{numbers.{CpuNo.{CpuNo}, EventNo.{EventNo}, TaskNo.{TaskNo}}, standing.{Context.{Context}, Standing.{Standing}}}
use Rattle.perf_base.specs.declared.standing.Context.TheVariants as context
use Rattle.stage_spec.specs.{declared.instance.Instance.{Instance}, Hardware.{Hardware}}
use Rattle.stage_spec.specs.Stage.{Stage, Group, Lists, lists_of, no_groups, place_of, change_context, is_of_family, is_copy, task_on, all_cpus}
use Rattle.stage_spec.specs.{Verdict.{Judged, judge, task_lists, verdicts}}
use Rattle.stage_spec.specs.Settle.{failed, settle_pass, settle_lists, settle_task, own_verdicts, settle, settle_each, settle_all}
use Rattle.stage_spec.specs.{Closing.{without, closed}, Rotation.{first_goes_last, turned, turn_lists, turn_task, rotated}, Exits.{exited, exited_by}}
use Rattle.stage_spec.{specs.Switching.{switched, put_on, is_running}, proofs.{Each.{Each, append-Each, get_or-Each}, Settling.{judged, either}}}

-- a law of the groups at each place of a stage; past the last context there are no groups
abbrev pub At : (ℕ → Lists → Type 0) → Stage → Type 0
At L s = (n : ℕ) → L n (slice_index_or s.contexts n no_groups)

abbrev pub AllowsNone : (ℕ → Lists → Type 0) → Type 0
AllowsNone L = (n : ℕ) → L n no_groups

pub At-from_each : (L : Lists → Type 0) → L no_groups → (s : Stage) → Each L s.contexts → At (λ n. L) s
At-from_each L none s h n = get_or-Each L s.contexts n no_groups h none

each_from : (L : Lists → Type 0) (contexts : List Lists) → ((n : ℕ) → L (slice_index_or contexts n no_groups)) → Each L contexts
unfolding Each
each_from L [] h = tt
each_from L (l ∷ contexts) h = (h 0, each_from L contexts (λ n. h (suc n)))

pub each-from_At : (L : Lists → Type 0) (s : Stage) → At (λ n. L) s → Each L s.contexts
each-from_At L s h = each_from L s.contexts h

pub both-At : (L M N : ℕ → Lists → Type 0) → ((n : ℕ) (l : Lists) → L n l → M n l → N n l) → (s : Stage) → At L s → At M s → At N s
both-At L M N f s h k n = f n (slice_index_or s.contexts n no_groups) (h n) (k n)

pub task_lists-in : (L : Lists → Type 0) → L no_groups → (s : Stage) (to : Option TaskNo) → At (λ n. L) s → L (task_lists s to)
task_lists-in L none s None h = none
task_lists-in L none s (Some task) h = h (place_of (context.Task task))

-- what settling, a tick, and instances that go leave of a law
abbrev pub SettlesWithin : (ℕ → Lists → Type 0) → Hardware → Type 0
SettlesWithin L hw = (n : ℕ) (cpu : CpuNo) (before : List Judged) (l : Lists) → L n l → L n (settle_lists hw cpu before l)

abbrev pub TurnsWithin : (ℕ → Lists → Type 0) → Hardware → Type 0
TurnsWithin L hw = (n : ℕ) (cpu : CpuNo) (judged : List Judged) (l : Lists) → L n l → L n (turn_lists hw cpu judged l)

abbrev pub LosesWithin : (ℕ → Lists → Type 0) → Type 0
LosesWithin L = (n : ℕ) (goes : Instance → Bool) (l : Lists) → L n l → L n (without goes l)

-- one context changed, and all of them
pub change_context-at : (L M : ℕ → Lists → Type 0) → AllowsNone M → (c : Context) (f : Lists → Lists) (s : Stage)
    → (place_of c < length s.contexts → L (place_of c) (lists_of s c) → M (place_of c) (f (lists_of s c)))
    → ((n : ℕ) (l : Lists) → (n ≡ place_of c → ⊥) → L n l → M n l) → At L s → At M (change_context c f s)
change_context-at L M none c f s here there h n =
    let now : List Lists = set s.contexts (place_of c) (f (lists_of s c)) in
    grind (arith, cases_lt, get_or, now, get_or-set_same, set_out, get_or_past, get_or-set_other)

pub change_context-keeps : (L : ℕ → Lists → Type 0) → AllowsNone L → (c : Context) (f : Lists → Lists) (s : Stage) → (L (place_of c) (lists_of s c) → L (place_of c) (f (lists_of s c)))
    → At L s → At L (change_context c f s)
change_context-keeps L none c f s k h = change_context-at L L none c f s (λ within. k) (λ n l apart g. g) h

get_or-map : {X Y : Type 0} (f : X → Y) (xs : List X) (n : ℕ) (d : X) → slice_index_or (map f xs) n (f d) ≡ f (slice_index_or xs n d)
get_or-map f [] n d = refl
get_or-map f (x ∷ xs) zero d = refl
get_or-map f (x ∷ xs) (suc n) d = get_or-map f xs n d

pub map-at : (L M : ℕ → Lists → Type 0) (f : Lists → Lists) (s : Stage) → f no_groups ≡ no_groups → ((n : ℕ) (l : Lists) → L n l → M n (f l)) → At L s
    → At M (record s { contexts = map f s.contexts })
map-at L M f s none k h n =
    let same : slice_index_or (map f s.contexts) n no_groups ≡ f (slice_index_or s.contexts n no_groups) = grind (arith, get_or-map) in
    rw same (k n (slice_index_or s.contexts n no_groups) (h n))

-- a processor's own context changed, and then its task's
abbrev on_task : (Lists → Lists) → Option TaskNo → Stage → Stage
on_task f None s = s
on_task f (Some task) s = change_context (context.Task task) f s

settle_task-is : (hw : Hardware) (cpu : CpuNo) (before : List Judged) (to : Option TaskNo) (s : Stage) → on_task (settle_lists hw cpu before) to s ≡ settle_task hw cpu before to s
settle_task-is hw cpu before None s = refl
settle_task-is hw cpu before (Some task) s = refl

turn_task-is : (hw : Hardware) (cpu : CpuNo) (judged : List Judged) (to : Option TaskNo) (s : Stage) → on_task (turn_lists hw cpu judged) to s ≡ turn_task hw cpu judged to s
turn_task-is hw cpu judged None s = refl
turn_task-is hw cpu judged (Some task) s = refl

on_task-keeps : (L : ℕ → Lists → Type 0) → AllowsNone L → (f : Lists → Lists) → ((n : ℕ) (l : Lists) → L n l → L n (f l)) → (to : Option TaskNo) (s : Stage)
    → At L s → At L (on_task f to s)
on_task-keeps L none f k None s h = h
on_task-keeps L none f k (Some task) s h = change_context-keeps L none (context.Task task) f s (k (place_of (context.Task task)) (lists_of s (context.Task task))) h

two_contexts-keep : (L : ℕ → Lists → Type 0) → AllowsNone L → (f g : Lists → Lists) → ((n : ℕ) (l : Lists) → L n l → L n (f l)) → ((n : ℕ) (l : Lists) → L n l → L n (g l))
    → (cpu : CpuNo) (to : Option TaskNo) (s : Stage) → At L s → At L (on_task g to (change_context (context.Processor cpu) f s))
two_contexts-keep L none f g k m cpu to s h =
    on_task-keeps L none g m to (change_context (context.Processor cpu) f s)
    (change_context-keeps L none (context.Processor cpu) f s (k (place_of (context.Processor cpu)) (lists_of s (context.Processor cpu))) h)

-- settling
pub settle-keeps : (L : ℕ → Lists → Type 0) → AllowsNone L → (hw : Hardware) → SettlesWithin L hw → (cpu : CpuNo) (s : Stage) → At L s → At L (settle hw cpu s)
unfolding settle
settle-keeps L none hw k cpu s h =
    let one : List Judged = own_verdicts hw s cpu in
    subst (At L) (settle_task-is hw cpu one (task_on s cpu) (change_context (context.Processor cpu) (settle_lists hw cpu []) s))
    (two_contexts-keep L none (settle_lists hw cpu []) (settle_lists hw cpu one) (λ n. k n cpu []) (λ n. k n cpu one) cpu (task_on s cpu) s h)

settle_each-keeps : (L : ℕ → Lists → Type 0) → AllowsNone L → (hw : Hardware) → SettlesWithin L hw → (cpus : List CpuNo) (s : Stage) → At L s → At L (settle_each hw cpus s)
unfolding settle_each
settle_each-keeps L none hw k [] s h = h
settle_each-keeps L none hw k (cpu ∷ cpus) s h = settle_each-keeps L none hw k cpus (settle hw cpu s) (settle-keeps L none hw k cpu s h)

pub settle_all-keeps : (L : ℕ → Lists → Type 0) → AllowsNone L → (hw : Hardware) → SettlesWithin L hw → (s : Stage) → At L s → At L (settle_all hw s)
unfolding settle_all
settle_all-keeps L none hw k s h = settle_each-keeps L none hw k (all_cpus s) s h

-- a tick
pub rotated-keeps : (L : ℕ → Lists → Type 0) → AllowsNone L → (hw : Hardware) → TurnsWithin L hw → (cpu : CpuNo) (s : Stage) → At L s → At L (rotated hw cpu s)
unfolding rotated
rotated-keeps L none hw k cpu s h =
    let turn : Lists → Lists = turn_lists hw cpu (verdicts hw s cpu) in
    subst (At L) (turn_task-is hw cpu (verdicts hw s cpu) (task_on s cpu) (change_context (context.Processor cpu) turn s))
    (two_contexts-keep L none turn turn (λ n. k n cpu (verdicts hw s cpu)) (λ n. k n cpu (verdicts hw s cpu)) cpu (task_on s cpu) s h)

-- a close and an exit
pub closed-keeps : (L : ℕ → Lists → Type 0) → LosesWithin L → (e : EventNo) (s : Stage) → At L s → At L (closed e s)
unfolding closed
closed-keeps L k e s h = map-at L L (without (is_of_family e)) s refl (λ n. k n (is_of_family e)) h

exited_by-keeps : (L : ℕ → Lists → Type 0) → AllowsNone L → LosesWithin L → (cpu : CpuNo) (to : Option TaskNo) (s : Stage) → At L s → At L (exited_by cpu to s)
exited_by-keeps L none k cpu None s h = h
exited_by-keeps L none k cpu (Some task) s h =
    change_context-keeps L none (context.Task task) (without is_copy) s (k (place_of (context.Task task)) is_copy (lists_of s (context.Task task))) h

pub exited-keeps : (L : ℕ → Lists → Type 0) → AllowsNone L → LosesWithin L → (cpu : CpuNo) (s : Stage) → At L s → At L (exited cpu s)
unfolding exited
exited-keeps L none k cpu s h = exited_by-keeps L none k cpu (task_on s cpu) s h

-- a switch
put_on-keeps : (L : ℕ → Lists → Type 0) (cpu : CpuNo) (to : Option TaskNo) (s : Stage) → At L s → At L (put_on cpu to s)
put_on-keeps L cpu None s h = h
put_on-keeps L cpu (Some task) s h = h

one_stage-keeps : (L : ℕ → Lists → Type 0) (b : Bool) (s t : Stage) → At L s → At L t → At L (elim b as (λ x. Stage) [ true ↦ s | false ↦ t ])
one_stage-keeps L true s t h k = h
one_stage-keeps L false s t h k = k

pub switched-keeps : (L : ℕ → Lists → Type 0) (cpu : CpuNo) (to : Option TaskNo) (s : Stage) → At L s → At L (switched cpu to s)
unfolding switched
switched-keeps L cpu to s h = one_stage-keeps L (is_running (task_on s cpu) to) s (put_on cpu to s) h (put_on-keeps L cpu to s h)

-- what holds of each group of a pass, after it is settled, and of each flexible group after a tick
pub either-Each : (P : Group → Type 0) (b : Bool) (xs ys : List Group) → Each P xs → Each P ys → Each P (either b xs ys)
either-Each P true xs ys h k = h
either-Each P false xs ys h k = k

pub settle_pass-keeps : (P : Group → Type 0) → ((v : Standing) (g : Group) → P g → P (failed v g)) → (hw : Hardware) (cpu : CpuNo) (before within : List Judged) (groups : List Group)
    → Each P groups → Each P (settle_pass hw cpu before within groups)
unfolding settle_pass Each
settle_pass-keeps P k hw cpu before within [] h = tt
settle_pass-keeps P k hw cpu before within (g ∷ groups) h =
    let v : Standing = judge hw before within g in
    let more : List Judged = within ++ judged g v ∷ [] in
    grind (arith, either-Each, v, more, settle_pass-keeps P k hw cpu before more groups h.1, settle_pass-keeps P k hw cpu before within groups h.1)

first_goes_last-keeps : (P : Group → Type 0) (test : Group → Bool) (groups : List Group) → Each P groups → Each P (first_goes_last test groups)
unfolding Each
first_goes_last-keeps P test [] h = tt
first_goes_last-keeps P test (g ∷ groups) h = grind (arith, either-Each, append-Each, first_goes_last-keeps P test groups h.1)

pub turned-keeps : (P : Group → Type 0) (hw : Hardware) (cpu : CpuNo) (js : List Judged) (groups : List Group) → Each P groups → Each P (turned hw cpu js groups)
turned-keeps P hw cpu js groups h = grind (arith, either-Each, first_goes_last-keeps)

-- The weight of a stage: the sum, over its instances, of a number for each. One equation for each change of a stage.
use Rattle.std.specs.Prelude.{◌≡◌, ℕ, ◌+◌, ◌<◌, ◌≤◌, Bool, true, false, not, cond, List, [], ◌∷◌, ◌++◌, map, flat_map, length, count_by, Option, Some, None}
use Rattle.std.{proofs.{Common.{arith, refl, ap, ◌∙◌, sym, inl, inr}, lemmas.{Bool.{cases_lt}, List.{get_or_past, set_past}}}}
use Rattle.perf_base.specs.declared.{numbers.{CpuNo.{CpuNo}, EventNo.{EventNo}, TaskNo.{TaskNo}}, standing.{Context.{Context}, Own.{Own}}}
use Rattle.perf_base.specs.{declared.standing.Standing.{Standing}}
use Rattle.perf_base.specs.declared.standing.Context.TheVariants as context
use Rattle.perf_base.specs.declared.standing.Standing.TheVariants as standing
use Rattle.stage_spec.specs.{declared.instance.Instance.{Instance}, Hardware.{Hardware}}
use Rattle.stage_spec.specs.Stage.{Stage, Group, members_of, alone, change_group, Lists, lists_of, no_groups, groups_in, members, all_instances, place_of, change_lists, change_each, change_context, is_of_family, is_copy, task_on, all_cpus}
use Rattle.stage_spec.specs.{Verdict.{Judged, judge, task_lists}}
use Rattle.stage_spec.specs.Settle.{failed, settle_pass, settle_lists, settle_task, settle, settle_each, settle_all}
use Rattle.stage_spec.specs.Closing.{staying, without, kept_group, freed_groups, closed}
use Rattle.stage_spec.specs.{Rotation.{first_goes_last, turned, turn_lists, turn_task, rotated}, Exits.{exited, exited_by}}
use Rattle.stage_spec.{specs.Switching.{switched, put_on, is_running}, proofs.Settling.{judged, either}}
use Rattle.stage_laws.proofs.Totals.{total, total-nil, total-cons, total-append, total-push, total-map, total-flat_map, total-same, total-le, total-plus, total-filter, total-set, get_or-le-total, one_if, count_by-is-total}

-- the weight of a group, of a context, of one context of a stage, and of the stage
abbrev pub group_weight : (Instance → ℕ) → Group → ℕ
group_weight f g = f g.leader + total f g.siblings

abbrev pub lists_weight : (Instance → ℕ) → Lists → ℕ
lists_weight f l = total (group_weight f) l.pinned + total (group_weight f) l.flexible

abbrev pub weight_in : (Instance → ℕ) → Stage → Context → ℕ
weight_in f s c = lists_weight f (lists_of s c)

abbrev pub weigh : (Instance → ℕ) → Stage → ℕ
weigh f s = total (lists_weight f) s.contexts

pub no_groups-weigh : (f : Instance → ℕ) → lists_weight f no_groups ≡ 0
no_groups-weigh f = omega (arith, total-nil (group_weight f))

-- it is the sum over the list of all instances
pub members-weigh : (f : Instance → ℕ) (groups : List Group) → total f (members groups) ≡ total (group_weight f) groups
members-weigh f groups = total-flat_map f members_of groups ∙ total-same (λ g. total f (members_of g)) (group_weight f) (λ g. total-cons f g.leader g.siblings) groups

pub lists-weigh : (f : Instance → ℕ) (l : Lists) → total f (members (groups_in l)) ≡ lists_weight f l
lists-weigh f l = members-weigh f (groups_in l) ∙ total-append (group_weight f) l.pinned l.flexible

pub weigh-is-total : (f : Instance → ℕ) (s : Stage) → total f (all_instances s) ≡ weigh f s
weigh-is-total f s = grind (arith, members-weigh, total-flat_map, total-same, total, total-append)

pub weigh-is-count : (test : Instance → Bool) (s : Stage) → count_by test (all_instances s) ≡ weigh (one_if test) s
weigh-is-count test s = count_by-is-total test (all_instances s) ∙ weigh-is-total (one_if test) s

-- one context weighs at most what the stage does
pub weight_in-le : (f : Instance → ℕ) (s : Stage) (c : Context) → weight_in f s c ≤ weigh f s
weight_in-le f s c = get_or-le-total (lists_weight f) s.contexts (place_of c) no_groups (no_groups-weigh f)

-- weights of two numbers for each instance
group-same : (f g : Instance → ℕ) → ((i : Instance) → f i ≡ g i) → (group : Group) → group_weight f group ≡ group_weight g group
group-same f g h group = omega (arith, h group.leader, total-same f g h group.siblings)

pub lists-same : (f g : Instance → ℕ) → ((i : Instance) → f i ≡ g i) → (l : Lists) → lists_weight f l ≡ lists_weight g l
lists-same f g h l = grind (arith, total-same, group-same)

pub weigh-same : (f g : Instance → ℕ) → ((i : Instance) → f i ≡ g i) → (s : Stage) → weigh f s ≡ weigh g s
weigh-same f g h s = total-same (lists_weight f) (lists_weight g) (lists-same f g h) s.contexts

pub group-le : (f g : Instance → ℕ) → ((i : Instance) → f i ≤ g i) → (group : Group) → group_weight f group ≤ group_weight g group
group-le f g h group = omega (arith, h group.leader, total-le f g h group.siblings)

pub lists-le : (f g : Instance → ℕ) → ((i : Instance) → f i ≤ g i) → (l : Lists) → lists_weight f l ≤ lists_weight g l
lists-le f g h l = grind (arith, total-le, group-le)

pub weigh-le : (f g : Instance → ℕ) → ((i : Instance) → f i ≤ g i) → (s : Stage) → weigh f s ≤ weigh g s
weigh-le f g h s = total-le (lists_weight f) (lists_weight g) (lists-le f g h) s.contexts

-- a change of each instance
change_group-weighs : (f : Instance → ℕ) (change : Instance → Instance) (g : Group) → group_weight f (change_group change g) ≡ group_weight (λ i. f (change i)) g
change_group-weighs f change g = omega (arith, total-map f change g.siblings)

change_groups-weigh : (f : Instance → ℕ) (change : Instance → Instance) (groups : List Group)
    → total (group_weight f) (map (change_group change) groups) ≡ total (group_weight (λ i. f (change i))) groups
change_groups-weigh f change groups = grind (arith, total-map, total-same, change_group-weighs)

pub change_lists-weighs : (f : Instance → ℕ) (change : Instance → Instance) (l : Lists) → lists_weight f (change_lists change l) ≡ lists_weight (λ i. f (change i)) l
change_lists-weighs f change l = omega (arith, change_groups-weigh f change l.pinned, change_groups-weigh f change l.flexible)

pub change_each-weighs : (f : Instance → ℕ) (change : Instance → Instance) (s : Stage) → weigh f (change_each change s) ≡ weigh (λ i. f (change i)) s
change_each-weighs f change s = grind (arith, total-map, total-same, change_lists-weighs)

pub change_each-keeps : (f : Instance → ℕ) (change : Instance → Instance) → ((i : Instance) → f (change i) ≡ f i) → (s : Stage) → weigh f (change_each change s) ≡ weigh f s
change_each-keeps f change h s = change_each-weighs f change s ∙ weigh-same (λ i. f (change i)) f h s

-- a change of one context that has a place
pub change_context-weighs : (f : Instance → ℕ) (c : Context) (change : Lists → Lists) (s : Stage) → place_of c < length s.contexts
    → weigh f (change_context c change s) + weight_in f s c ≡ weigh f s + lists_weight f (change (lists_of s c))
change_context-weighs f c change s h = total-set (lists_weight f) s.contexts (place_of c) (change (lists_of s c)) no_groups h

-- and of one that may have none
pub change_context-same : (f : Instance → ℕ) (c : Context) (change : Lists → Lists) (s : Stage) → lists_weight f (change (lists_of s c)) ≡ weight_in f s c
    → weigh f (change_context c change s) ≡ weigh f s
change_context-same f c change s e = grind (arith, cases_lt, change_context-weighs, total, set_past)

pub change_context-le : (f : Instance → ℕ) (c : Context) (change : Lists → Lists) (s : Stage) (n : ℕ) → lists_weight f (change (lists_of s c)) ≤ weight_in f s c + n
    → weigh f (change_context c change s) ≤ weigh f s + n
change_context-le f c change s n e = grind (arith, cases_lt, change_context-weighs, total, set_past)

-- a number that does not depend on an instance's own state
abbrev pub IgnoresOwn : (Instance → ℕ) → Type 0
IgnoresOwn f = (i : Instance) (o : Own) → f (record i { own = o }) ≡ f i

-- settling
failed-weighs : (f : Instance → ℕ) → IgnoresOwn f → (v : Standing) (g : Group) → group_weight f (failed v g) ≡ group_weight f g
failed-weighs f h standing.Out g = refl
failed-weighs f h standing.On g = refl
failed-weighs f h (standing.Refused c) g = ap (λ n. n + total f g.siblings) (h g.leader _)

either-weighs : (f : Group → ℕ) (b : Bool) (xs ys : List Group) (n : ℕ) → total f xs ≡ n → total f ys ≡ n → total f (either b xs ys) ≡ n
either-weighs f true xs ys n h k = h
either-weighs f false xs ys n h k = k

settle_pass-weighs : (f : Instance → ℕ) → IgnoresOwn f → (hw : Hardware) (cpu : CpuNo) (before within : List Judged) (groups : List Group)
    → total (group_weight f) (settle_pass hw cpu before within groups) ≡ total (group_weight f) groups
unfolding settle_pass total
settle_pass-weighs f h hw cpu before within [] = refl
settle_pass-weighs f h hw cpu before within (g ∷ groups) =
    let v : Standing = judge hw before within g in
    let more : List Judged = within ++ judged g v ∷ [] in
    grind (arith, failed-weighs f h v g, settle_pass-weighs f h hw cpu before more groups, settle_pass-weighs f h hw cpu before within groups)

pub settle_lists-weighs : (f : Instance → ℕ) → IgnoresOwn f → (hw : Hardware) (cpu : CpuNo) (before : List Judged) (l : Lists) → lists_weight f (settle_lists hw cpu before l) ≡ lists_weight f l
settle_lists-weighs f h hw cpu before l = omega (arith, settle_pass-weighs f h hw cpu before [] l.pinned)

settle_task-weighs : (f : Instance → ℕ) → IgnoresOwn f → (hw : Hardware) (cpu : CpuNo) (before : List Judged) (to : Option TaskNo) (s : Stage) → weigh f (settle_task hw cpu before to s) ≡ weigh f s
settle_task-weighs f h hw cpu before None s = refl
settle_task-weighs f h hw cpu before (Some task) s = search (change_context-same, settle_lists-weighs)

pub settle-weighs : (f : Instance → ℕ) → IgnoresOwn f → (hw : Hardware) (cpu : CpuNo) (s : Stage) → weigh f (settle hw cpu s) ≡ weigh f s
unfolding settle
settle-weighs f h hw cpu s = search (settle_task-weighs, change_context-same, settle_lists-weighs)

settle_each-weighs : (f : Instance → ℕ) → IgnoresOwn f → (hw : Hardware) (cpus : List CpuNo) (s : Stage) → weigh f (settle_each hw cpus s) ≡ weigh f s
unfolding settle_each
settle_each-weighs f h hw [] s = refl
settle_each-weighs f h hw (cpu ∷ cpus) s = settle_each-weighs f h hw cpus (settle hw cpu s) ∙ settle-weighs f h hw cpu s

pub settle_all-weighs : (f : Instance → ℕ) → IgnoresOwn f → (hw : Hardware) (s : Stage) → weigh f (settle_all hw s) ≡ weigh f s
unfolding settle_all
settle_all-weighs f h hw s = settle_each-weighs f h hw (all_cpus s) s

-- switches and ticks
put_on-weighs : (f : Instance → ℕ) (cpu : CpuNo) (to : Option TaskNo) (s : Stage) → weigh f (put_on cpu to s) ≡ weigh f s
put_on-weighs f cpu None s = refl
put_on-weighs f cpu (Some task) s = refl

one_stage-weighs : (f : Instance → ℕ) (b : Bool) (s t : Stage) (n : ℕ) → weigh f s ≡ n → weigh f t ≡ n → weigh f (elim b as (λ x. Stage) [ true ↦ s | false ↦ t ]) ≡ n
one_stage-weighs f true s t n h k = h
one_stage-weighs f false s t n h k = k

pub switched-weighs : (f : Instance → ℕ) (cpu : CpuNo) (to : Option TaskNo) (s : Stage) → weigh f (switched cpu to s) ≡ weigh f s
unfolding switched
switched-weighs f cpu to s = one_stage-weighs f (is_running (task_on s cpu) to) s (put_on cpu to s) (weigh f s) refl (put_on-weighs f cpu to s)

first_goes_last-weighs : (f : Group → ℕ) (test : Group → Bool) (groups : List Group) → total f (first_goes_last test groups) ≡ total f groups
unfolding total
first_goes_last-weighs f test [] = refl
first_goes_last-weighs f test (g ∷ groups) = grind (arith, either-weighs, total, total-push, first_goes_last-weighs f test groups)

turned-weighs : (f : Group → ℕ) (hw : Hardware) (cpu : CpuNo) (js : List Judged) (groups : List Group) → total f (turned hw cpu js groups) ≡ total f groups
turned-weighs f hw cpu js groups = grind (arith, either-weighs, total, first_goes_last-weighs)

pub turn_lists-weighs : (f : Instance → ℕ) (hw : Hardware) (cpu : CpuNo) (js : List Judged) (l : Lists) → lists_weight f (turn_lists hw cpu js l) ≡ lists_weight f l
turn_lists-weighs f hw cpu js l = omega (arith, turned-weighs (group_weight f) hw cpu js l.flexible)

turn_task-weighs : (f : Instance → ℕ) (hw : Hardware) (cpu : CpuNo) (js : List Judged) (to : Option TaskNo) (s : Stage) → weigh f (turn_task hw cpu js to s) ≡ weigh f s
turn_task-weighs f hw cpu js None s = refl
turn_task-weighs f hw cpu js (Some task) s = search (change_context-same, turn_lists-weighs)

pub rotated-weighs : (f : Instance → ℕ) (hw : Hardware) (cpu : CpuNo) (s : Stage) → weigh f (rotated hw cpu s) ≡ weigh f s
unfolding rotated
rotated-weighs f hw cpu s = search (turn_task-weighs, change_context-same, turn_lists-weighs)

-- where instances go: the weight of those that stay, and of those that go
abbrev pub if_stays : (Instance → Bool) → (Instance → ℕ) → Instance → ℕ
if_stays goes f i = cond (goes i) 0 (f i)

abbrev pub if_goes : (Instance → Bool) → (Instance → ℕ) → Instance → ℕ
if_goes goes f i = cond (goes i) (f i) 0

not-stays : (b : Bool) (n : ℕ) → cond (not b) n 0 ≡ cond b 0 n
not-stays true n = refl
not-stays false n = refl

goes_or_stays : (b : Bool) (n : ℕ) → cond b n 0 + cond b 0 n ≡ n
goes_or_stays true n = omega arith
goes_or_stays false n = omega arith

pub if_stays-le : (goes : Instance → Bool) (f : Instance → ℕ) (i : Instance) → if_stays goes f i ≤ f i
if_stays-le goes f i = omega (arith, goes_or_stays (goes i) (f i))

staying-weighs : (goes : Instance → Bool) (f : Instance → ℕ) (xs : List Instance) → total f (staying goes xs) ≡ total (if_stays goes f) xs
staying-weighs goes f xs = grind (arith, total-filter, total-same, not-stays)

alone-weighs : (f : Instance → ℕ) (xs : List Instance) → total (group_weight f) (map alone xs) ≡ total f xs
alone-weighs f xs = total-map (group_weight f) alone xs ∙ total-same (λ i. group_weight f (alone i)) f (λ i. omega (arith, total-nil f)) xs

split-weighs : (f : Instance → ℕ) (b : Bool) (g : Group) (stay : List Instance)
    → total (group_weight f) (either b [] (record g { siblings = stay } ∷ [])) + total (group_weight f) (either b (map alone stay) []) ≡ cond b 0 (f g.leader) + total f stay
unfolding total
split-weighs f true g stay = omega (arith, alone-weighs f stay)
split-weighs f false g stay = omega arith

group_without-weighs : (goes : Instance → Bool) (f : Instance → ℕ) (g : Group)
    → total (group_weight f) (kept_group goes g) + total (group_weight f) (freed_groups goes g) ≡ group_weight (if_stays goes f) g
group_without-weighs goes f g = omega (arith, split-weighs f (goes g.leader) g (staying goes g.siblings), staying-weighs goes f g.siblings)

groups_without-weigh : (goes : Instance → Bool) (f : Instance → ℕ) (groups : List Group)
    → total (group_weight f) (flat_map (kept_group goes) groups) + total (group_weight f) (flat_map (freed_groups goes) groups) ≡ total (group_weight (if_stays goes f)) groups
groups_without-weigh goes f groups =
    let kept : Group → ℕ = λ g. total (group_weight f) (kept_group goes g) in
    let freed : Group → ℕ = λ g. total (group_weight f) (freed_groups goes g) in
    let both : total (λ g. kept g + freed g) groups ≡ total (group_weight (if_stays goes f)) groups
    = total-same (λ g. kept g + freed g) (group_weight (if_stays goes f)) (group_without-weighs goes f) groups in
    omega (arith, total-flat_map (group_weight f) (kept_group goes) groups, total-flat_map (group_weight f) (freed_groups goes) groups, total-plus kept freed groups, both)

freed-append : (goes : Instance → Bool) (f : Group → ℕ) (xs ys : List Group)
    → total f (flat_map (freed_groups goes) (xs ++ ys)) ≡ total f (flat_map (freed_groups goes) xs) + total f (flat_map (freed_groups goes) ys)
freed-append goes f xs ys = grind (arith, total, total-flat_map, total-append)

pub without-weighs : (goes : Instance → Bool) (f : Instance → ℕ) (l : Lists) → lists_weight f (without goes l) ≡ lists_weight (if_stays goes f) l
without-weighs goes f l = grind (arith, groups_without-weigh, freed-append, total-append)

pub closed-weighs : (f : Instance → ℕ) (e : EventNo) (s : Stage) → weigh f (closed e s) ≡ weigh (if_stays (is_of_family e) f) s
unfolding closed
closed-weighs f e s = grind (arith, total-map, total-same, without-weighs)

pub closed-le : (f : Instance → ℕ) (e : EventNo) (s : Stage) → weigh f (closed e s) ≤ weigh f s
closed-le f e s = omega (arith, closed-weighs f e s, weigh-le (if_stays (is_of_family e) f) f (if_stays-le (is_of_family e) f) s)

parts-weigh : (f g h : Instance → ℕ) → ((i : Instance) → f i + g i ≡ h i) → (groups : List Group) → total (group_weight f) groups + total (group_weight g) groups ≡ total (group_weight h) groups
unfolding total
parts-weigh f g h e [] = refl
parts-weigh f g h e (group ∷ groups) =
    let siblings : total f group.siblings + total g group.siblings ≡ total h group.siblings
    = sym (total-plus f g group.siblings) ∙ total-same (λ i. f i + g i) h e group.siblings in
    omega (arith, e group.leader, siblings, parts-weigh f g h e groups)

lists_parts-weigh : (f g h : Instance → ℕ) → ((i : Instance) → f i + g i ≡ h i) → (l : Lists) → lists_weight f l + lists_weight g l ≡ lists_weight h l
lists_parts-weigh f g h e l = omega (arith, parts-weigh f g h e l.pinned, parts-weigh f g h e l.flexible)

-- instances that go from one context
pub without_in-weighs : (f : Instance → ℕ) (goes : Instance → Bool) (c : Context) (s : Stage)
    → weigh f (change_context c (without goes) s) + weight_in (if_goes goes f) s c ≡ weigh f s
without_in-weighs f goes c s =
    let parts : weight_in (if_goes goes f) s c + weight_in (if_stays goes f) s c ≡ weight_in f s c
    = lists_parts-weigh (if_goes goes f) (if_stays goes f) f (λ i. goes_or_stays (goes i) (f i)) (lists_of s c) in
    elim (cases_lt (place_of c) (length s.contexts)) [
      | inl h ↦ omega (arith, parts, without-weighs goes f (lists_of s c), change_context-weighs f c (without goes) s h)
      | inr h ↦ grind (arith, total, set_past, h, get_or_past, no_groups-weigh)
    ]

exited_by-weighs : (f : Instance → ℕ) (cpu : CpuNo) (to : Option TaskNo) (s : Stage) → weigh f (exited_by cpu to s) + lists_weight (if_goes is_copy f) (task_lists s to) ≡ weigh f s
exited_by-weighs f cpu None s = omega (arith, no_groups-weigh (if_goes is_copy f))
exited_by-weighs f cpu (Some task) s = without_in-weighs f is_copy (context.Task task) s

pub exited-weighs : (f : Instance → ℕ) (cpu : CpuNo) (s : Stage) → weigh f (exited cpu s) + lists_weight (if_goes is_copy f) (task_lists s (task_on s cpu)) ≡ weigh f s
unfolding exited
exited-weighs f cpu s = exited_by-weighs f cpu (task_on s cpu) s

pub exited-le : (f : Instance → ℕ) (cpu : CpuNo) (s : Stage) → weigh f (exited cpu s) ≤ weigh f s
exited-le f cpu s = omega (arith, exited-weighs f cpu s)

-- What an open and a fork add to the weight of a stage.
use Rattle.std.specs.Prelude.{◌≡◌, ℕ, ◌+◌, ◌*◌, ◌<◌, ◌≤◌, ◌==◌, nat_le, nat_lt, Bool, true, false, cond, ◌&&◌, List, [], ◌∷◌, map, flat_map, length, sum_by, Option, Some, None, if◌then◌else◌}
use Rattle.std.proofs.{Common.{arith, refl, ap, ◌∙◌, sym}, lemmas.{Bool.Decides.{nat_tests}, List.Sums.{sum_by-cons}}}
use Rattle.perf_base.specs.{declared.{numbers.{CpuNo.{CpuNo}, EventNo.{EventNo}, TaskNo.{TaskNo}}, attr.Attr.{Attr}}, Contexts.{context_of}}
use Rattle.perf_base.specs.declared.standing.Context.TheVariants as context
use Rattle.stage_spec.specs.declared.instance.Instance.{Instance}
use Rattle.stage_spec.specs.Stage.{Stage, Group, group_size, alone, Lists, lists_of, no_groups, groups_in, all_groups, place_of, is_original, task_on}
use Rattle.stage_spec.specs.{Flags.{is_inherited, is_pinned}, Opening.{opened, placed, add_group, joined, join_group, join_lists, new_original}}
use Rattle.stage_spec.specs.{Verdict.{task_lists}, Forks.{copy_of, copies_from, copy_groups, copied, inherited_groups, new_copies, forked}}
use Rattle.stage_laws.specs.Sound.{has_id}
use Rattle.stage_laws.proofs.Totals.{total, total-nil, total-append, total-push, total-map, total-flat_map, total-same, total-le, total-none, total-plus, total-ones, total-times, total-filter_le, one_if}
use Rattle.stage_laws.proofs.Weights.{group_weight, lists_weight, weight_in, weigh, no_groups-weigh, change_context-weighs, change_context-le}

-- a group of its own
add_group-weighs : (f : Instance → ℕ) (b : Bool) (g : Group) (l : Lists) → lists_weight f (add_group b g l) ≡ lists_weight f l + group_weight f g
add_group-weighs f true g l = omega (arith, total-push (group_weight f) l.pinned g)
add_group-weighs f false g l = omega (arith, total-push (group_weight f) l.flexible g)

alone-weighs : (f : Instance → ℕ) (i : Instance) → group_weight f (alone i) ≡ f i
alone-weighs f i = omega (arith, total-nil f)

pub added-weighs : (f : Instance → ℕ) (i : Instance) (l : Lists) → lists_weight f (add_group (is_pinned i.attr) (alone i) l) ≡ lists_weight f l + f i
added-weighs f i l = omega (arith, add_group-weighs f (is_pinned i.attr) (alone i) l, alone-weighs f i)

-- a sibling joins each group that an original of a slot leads
abbrev pub leads : EventNo → Group → Bool
leads e g = is_original e g.leader

abbrev pub groups_led : EventNo → Stage → ℕ
groups_led e s = total (one_if (leads e)) (all_groups s)

joined-weighs : (f : Instance → ℕ) (b : Bool) (i : Instance) (g : Group) → group_weight f (if b then joined i g else g) ≡ group_weight f g + cond b (f i) 0
joined-weighs f true i g = omega (arith, total-push f g.siblings i)
joined-weighs f false i g = omega arith

abbrev pub joining : EventNo → ℕ → Group → ℕ
joining e n g = cond (leads e g) n 0

join_groups-weigh : (f : Instance → ℕ) (e : EventNo) (i : Instance) (groups : List Group)
    → total (group_weight f) (map (join_group e i) groups) ≡ total (group_weight f) groups + total (joining e (f i)) groups
join_groups-weigh f e i groups = search (nat_tests, total-map, group_weight, total-same, joined-weighs, total-plus)

pub join_lists-weigh : (f : Instance → ℕ) (e : EventNo) (i : Instance) (l : Lists)
    → lists_weight f (join_lists e i l) ≡ lists_weight f l + total (joining e (f i)) (groups_in l)
join_lists-weigh f e i l = grind (arith, nat_tests, join_groups-weigh, total-append)

joined_all-weigh : (f : Instance → ℕ) (e : EventNo) (i : Instance) (contexts : List Lists)
    → total (lists_weight f) (map (join_lists e i) contexts) ≡ total (lists_weight f) contexts + total (joining e (f i)) (flat_map groups_in contexts)
joined_all-weigh f e i contexts =
    let more : Lists → ℕ = λ l. total (joining e (f i)) (groups_in l) in
    let parts : total (lists_weight f) (map (join_lists e i) contexts) ≡ total (lists_weight f) contexts + total more contexts
    = total-map (lists_weight f) (join_lists e i) contexts
    ∙ (total-same (λ l. lists_weight f (join_lists e i l)) (λ l. lists_weight f l + more l) (join_lists-weigh f e i) contexts
    ∙ total-plus (lists_weight f) more contexts) in
    omega (arith, parts, total-flat_map (joining e (f i)) groups_in contexts)

-- how many groups an open goes to: its own one, or those that its leader leads
abbrev pub groups_joined : Option EventNo → Stage → ℕ
groups_joined None s = 1
groups_joined (Some e) s = groups_led e s

pub placed-weighs : (f : Instance → ℕ) (leader : Option EventNo) (i : Instance) (s : Stage) → place_of (context_of i.attr) < length s.contexts
    → weigh f (placed leader i s) ≡ weigh f s + groups_joined leader s * f i
placed-weighs f None i s h = grind (arith, nat_tests, change_context-weighs, added-weighs)
placed-weighs f (Some e) i s h = joined_all-weigh f e i s.contexts ∙ ap (λ n. weigh f s + n) (total-times (leads e) (f i) (all_groups s))

pub opened-weighs : (f : Instance → ℕ) (s : Stage) (slot : EventNo) (a : Attr) (leader : Option EventNo) → place_of (context_of a) < length s.contexts
    → weigh f (opened s slot a leader) ≡ weigh f s + groups_joined leader s * f (new_original s slot a)
unfolding opened
opened-weighs f s slot a leader h = placed-weighs f leader (new_original s slot a) s h

-- an original leads at most one group
pub leads-le : (e : EventNo) (g : Group) → one_if (leads e) g ≤ group_weight (one_if (is_original e)) g
leads-le e g = omega arith

pub groups_led-le : (e : EventNo) (s : Stage) → groups_led e s ≤ weigh (one_if (is_original e)) s
groups_led-le e s = grind (arith, nat_tests, total, one_if, lists_weight, total-append, total-le, group_weight, leads-le, total-flat_map)

-- the copies of some instances weigh what a number of the instances comes to
copies-weigh : (f g : Instance → ℕ) (s : Stage) → ((id : ℕ) (i : Instance) → f (copy_of s id i) ≡ g i) → (id : ℕ) (xs : List Instance) → total f (copies_from s id xs) ≡ total g xs
unfolding copies_from total
copies-weigh f g s h id [] = refl
copies-weigh f g s h id (i ∷ xs) = omega (arith, h id i, copies-weigh f g s h (id + 1) xs)

copy_groups-weigh : (f g : Instance → ℕ) (s : Stage) → ((id : ℕ) (i : Instance) → f (copy_of s id i) ≡ g i) → (id : ℕ) (groups : List Group)
    → total (group_weight f) (copy_groups s id groups) ≡ total (group_weight g) groups
unfolding copy_groups total
copy_groups-weigh f g s h id [] = refl
copy_groups-weigh f g s h id (group ∷ groups) = grind (arith, nat_tests, copies-weigh, copy_groups-weigh f g s h (id + group_size group) groups)

-- what the groups of a context that are inherited weigh
abbrev pub inherited_weight : (Instance → ℕ) → Lists → ℕ
inherited_weight f l = total (group_weight f) (inherited_groups l.pinned) + total (group_weight f) (inherited_groups l.flexible)

pub copied-weighs : (f g : Instance → ℕ) (s : Stage) → ((id : ℕ) (i : Instance) → f (copy_of s id i) ≡ g i) → (l : Lists) → lists_weight f (copied s l) ≡ inherited_weight g l
copied-weighs f g s h l = grind (arith, nat_tests, copy_groups-weigh)

pub inherited_weight-le : (f : Instance → ℕ) (l : Lists) → inherited_weight f l ≤ lists_weight f l
inherited_weight-le f l = omega (arith, total-filter_le (group_weight f) (λ g. is_inherited g.leader.attr) l.pinned, total-filter_le (group_weight f) (λ g. is_inherited g.leader.attr) l.flexible)

-- copies that weigh nothing
groups-zero : (groups : List Group) → total (group_weight (λ i. 0)) groups ≡ 0
groups-zero groups = total-same (group_weight (λ i. 0)) (λ g. 0) (λ g. omega (arith, total-none g.siblings)) groups ∙ total-none groups

pub copied-none : (f : Instance → ℕ) (s : Stage) → ((id : ℕ) (i : Instance) → f (copy_of s id i) ≡ 0) → (l : Lists) → lists_weight f (copied s l) ≡ 0
copied-none f s h l = omega (arith, copied-weighs f (λ i. 0) s h l, groups-zero (inherited_groups l.pinned), groups-zero (inherited_groups l.flexible))

-- there are as many copies as members of the inherited groups
sizes-weigh : (groups : List Group) → total (group_weight (λ i. 1)) groups ≡ sum_by group_size groups
unfolding total
sizes-weigh [] = refl
sizes-weigh (g ∷ groups) = omega (arith, total-ones g.siblings, sum_by-cons group_size g groups, sizes-weigh groups)

pub inherited-count : (l : Lists) → inherited_weight (λ i. 1) l ≡ new_copies l
inherited-count l = omega (arith, sizes-weigh (inherited_groups l.pinned), sizes-weigh (inherited_groups l.flexible))

-- the copies take the ids from the next one on, each once
abbrev pub among : (first count id : ℕ) → ℕ
among first count id = cond (nat_le first id && nat_lt id (first + count)) 1 0

among-none : (first id : ℕ) → among first 0 id ≡ 0
among-none first id = grind (arith, nat_tests)

among-first : (first size rest id : ℕ) → size ≡ rest + 1 → among first size id ≡ cond (first == id) 1 0 + among (first + 1) rest id
among-first first size rest id h = grind (arith, nat_tests, h)

among-plus : (first count more id : ℕ) → among first (count + more) id ≡ among first count id + among (first + count) more id
among-plus first count more id = grind (arith, nat_tests)

pub among-drawn : (first count id : ℕ) → among first count id ≤ 1
among-drawn first count id = grind (arith, nat_tests)

pub among-before : (first count id : ℕ) → id < first → among first count id ≡ 0
among-before first count id h = grind (arith, nat_tests, h)

pub among-after : (first count id : ℕ) → first + count ≤ id → among first count id ≡ 0
among-after first count id h = grind (arith, nat_tests, h)

copies-ids : (s : Stage) (n id : ℕ) (xs : List Instance) → total (one_if (has_id n)) (copies_from s id xs) ≡ among id (length xs) n
unfolding copies_from total
copies-ids s n id [] = sym (among-none id n)
copies-ids s n id (i ∷ xs) = omega (arith, copies-ids s n (id + 1) xs, among-first id (length (i ∷ xs)) (length xs) n (omega arith))

copy_groups-ids : (s : Stage) (n id : ℕ) (groups : List Group) → total (group_weight (one_if (has_id n))) (copy_groups s id groups) ≡ among id (sum_by group_size groups) n
unfolding copy_groups total
copy_groups-ids s n id [] = sym (among-none id n)
copy_groups-ids s n id (g ∷ groups) =
    let sizes : sum_by group_size (g ∷ groups) ≡ group_size g + sum_by group_size groups = sum_by-cons group_size g groups in
    grind (arith, nat_tests, sizes, copies-ids, among-first, among-plus, copy_groups-ids s n (id + group_size g) groups)

pub copied-ids : (s : Stage) (n : ℕ) (l : Lists) → lists_weight (one_if (has_id n)) (copied s l) ≡ among s.next_id (new_copies l) n
copied-ids s n l = grind (arith, nat_tests, copy_groups-ids, among-plus)

-- the copies are added, where the child had no groups
pub forked-weighs : (f : Instance → ℕ) (cpu : CpuNo) (child : TaskNo) (s : Stage) → place_of (context.Task child) < length s.contexts → lists_of s (context.Task child) ≡ no_groups
    → weigh f (forked cpu child s) ≡ weigh f s + lists_weight f (copied s (task_lists s (task_on s cpu)))
unfolding forked
forked-weighs f cpu child s h none =
    let parent : Lists = task_lists s (task_on s cpu) in
    let before : weight_in f s (context.Task child) ≡ 0 = ap (lists_weight f) none ∙ no_groups-weigh f in
    omega (arith, change_context-weighs f (context.Task child) (λ l. copied s parent) s h, before)

-- and at most they are
pub forked-le : (f : Instance → ℕ) (cpu : CpuNo) (child : TaskNo) (s : Stage) → weigh f (forked cpu child s) ≤ weigh f s + lists_weight f (copied s (task_lists s (task_on s cpu)))
unfolding forked
forked-le f cpu child s =
    let parent : Lists = task_lists s (task_on s cpu) in
    change_context-le f (context.Task child) (λ l. copied s parent) s (lists_weight f (copied s parent)) (omega arith)

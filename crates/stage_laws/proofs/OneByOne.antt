-- A change of some instances is a change of each of them, one after the other in any order.
use Rattle.std.specs.Prelude.{◌≡◌, ℕ, ◌+◌, ◌≤◌, ◌==◌, Bool, true, false, not, ◌&&◌, cond, List, [], ◌∷◌, map, filter, find, count_by, Some, if◌then◌else◌}
use Rattle.std.{specs.List.{fold}, proofs.{Common.{arith, refl, sym, ap, ◌∙◌, inl, inr}, lemmas.Bool.{cases_Bool, Decides.{nat_tests}}}}
use Rattle.std.proofs.lemmas.Simd.{map-map}
use Rattle.perf_base.specs.declared.numbers.EventNo.{EventNo}
use Rattle.stage_spec.specs.declared.instance.Instance.{Instance}
use Rattle.stage_spec.specs.Stage.{Stage, Group, Lists, all_instances, change_group, change_lists, change_each, is_original, original_of}
use Rattle.stage_spec.{specs.Commands.{is_reached, command_each, with_period}, proofs.Each.{Each, weaker-Each, InGroup, InLists}}
use Rattle.stage_spec.proofs.{Parts.{all-Each, both-Each}, Inside.{InStage-from_all}}
use Rattle.stage_laws.specs.Sound.{IsNumbered, has_id}
use Rattle.stage_laws.specs.OneByOne.{ids_of, AreIdsOf, change_one, change_ones, with_own, IdsLaw, CommandOneByOneLaw, PeriodOneLaw, RingOneLaw}
use Rattle.stage_laws.proofs.{Images.{map-same}, Counts.{count-cons}, Found.{found_weighs}, BoundsReached.{total-le_each}}
use Rattle.stage_laws.proofs.Totals.{total, total-same, total-plus, total-filter, as_number, one_if, count_by-is-total}
use Rattle.stage_spec.proofs.Present.{find-passes}

-- what an element has for itself is within the sum, and what adds up to no more is the same for each
pub each-within : {X : Type 0} (f : X → X → ℕ) (xs : List X) → Each (λ x. f x x ≤ total (f x) xs) xs
unfolding Each total
each-within f [] = tt
each-within f (x ∷ xs) = (omega arith, weaker-Each (λ y. f y y ≤ total (f y) xs) (λ y. f y y ≤ f y x + total (f y) xs) (λ y h. omega (arith, h)) xs (each-within f xs))

pub each-same : {X : Type 0} (f g : X → ℕ) (xs : List X) → Each (λ x. f x ≤ g x) xs → total g xs ≤ total f xs → Each (λ x. f x ≡ g x) xs
unfolding Each total
each-same f g [] h e = tt
each-same f g (x ∷ xs) h e = (omega (arith, h.0, total-le_each f g xs h.1, e), each-same f g xs h.1 (omega (arith, h.0, e)))

-- tests that agree
pub same_tests : (b c : Bool) → as_number b ≡ as_number c → b ≡ c
same_tests true true h = refl
same_tests true false h = absurd (omega (arith, h))
same_tests false true h = absurd (omega (arith, h))
same_tests false false h = refl

pub has_own_id : (i : Instance) → one_if (has_id i.id) i ≡ 1
has_own_id i = grind (arith, nat_tests)

-- among instances of different ids, each id of those that pass a test stands once in an order of theirs
cond-both : (b : Bool) (n : ℕ) → cond b n 0 + cond (not b) n 0 ≡ n
cond-both true n = omega arith
cond-both false n = omega arith

once-filtered : (test : Instance → Bool) (i : Instance) (xs : List Instance) → total (one_if (has_id i.id)) xs ≤ 1
    → cond (test i) (one_if (has_id i.id) i) 0 ≤ total (λ j. cond (test j) (one_if (has_id i.id) j) 0) xs
    → cond (not (test i)) (one_if (has_id i.id) i) 0 ≤ total (λ j. cond (not (test j)) (one_if (has_id i.id) j) 0) xs
    → count_by (has_id i.id) (filter test xs) ≡ as_number (test i)
once-filtered test i xs once stays goes =
    let h : Instance → ℕ = one_if (has_id i.id) in
    let own : cond (test i) (h i) 0 ≡ as_number (test i) = ap (λ n. cond (test i) n 0) (has_own_id i) in
    let other : cond (not (test i)) (h i) 0 ≡ as_number (not (test i)) = ap (λ n. cond (not (test i)) n 0) (has_own_id i) in
    let parts : total (λ j. cond (test j) (h j) 0) xs + total (λ j. cond (not (test j)) (h j) 0) xs ≡ total h xs
    = sym (total-plus (λ j. cond (test j) (h j) 0) (λ j. cond (not (test j)) (h j) 0) xs)
    ∙ total-same (λ j. cond (test j) (h j) 0 + cond (not (test j)) (h j) 0) h (λ j. cond-both (test j) (h j)) xs in
    omega (arith, count_by-is-total (has_id i.id) (filter test xs), total-filter h test xs, own, other, parts, once, stays, goes, cond-both (test i) 1)

pub pair-Each : {X : Type 0} (P Q : X → Type 0) (xs : List X) → Each P xs → Each Q xs → Each (λ x. P x × Q x) xs
pair-Each P Q xs h g = both-Each P Q (λ x. P x × Q x) (λ x k m. (k, m)) xs h g

abbrev pub StandsAs : List ℕ → Instance → Bool → Type 0
StandsAs ids i b = count_by (λ id. i.id == id) ids ≡ as_number b

pub each-stands : (test : Instance → Bool) (xs : List Instance) (ids : List ℕ) → ((n : ℕ) → count_by (has_id n) xs ≤ 1) → AreIdsOf (filter test xs) ids
    → Each (λ i. StandsAs ids i (test i)) xs
each-stands test xs ids once order =
    let stays : Instance → Instance → ℕ = λ i j. cond (test j) (one_if (has_id i.id) j) 0 in
    let goes : Instance → Instance → ℕ = λ i j. cond (not (test j)) (one_if (has_id i.id) j) 0 in
    weaker-Each (λ i. (stays i i ≤ total (stays i) xs) × (goes i i ≤ total (goes i) xs)) (λ i. StandsAs ids i (test i))
    (λ i h. order i.id ∙ once-filtered test i xs (omega (arith, once i.id, count_by-is-total (has_id i.id) xs)) h.0 h.1) xs
    (pair-Each (λ i. stays i i ≤ total (stays i) xs) (λ i. goes i i ≤ total (goes i) xs) xs (each-within stays xs) (each-within goes xs))

-- changes of all contexts one after the other, context by context
pub map-same_each : {X Y : Type 0} (f g : X → Y) (xs : List X) → Each (λ x. f x ≡ g x) xs → map f xs ≡ map g xs
unfolding Each
map-same_each f g [] h = refl
map-same_each f g (x ∷ xs) h = rw (h.0, map-same_each f g xs h.1) refl

pub map-none : {X : Type 0} (xs : List X) → map (λ x. x) xs ≡ xs
map-none [] = refl
map-none (x ∷ xs) = ap (λ ys. x ∷ ys) (map-none xs)

abbrev pub in_turn : {X : Type 0} → (ℕ → X → X) → List ℕ → X → X
in_turn f ids x = fold (λ y id. f id y) x ids

abbrev pub with_contexts : List Lists → Stage → Stage
with_contexts contexts s = record s { contexts = contexts }

pub fold-contexts : (f : ℕ → Lists → Lists) (ids : List ℕ) (s : Stage)
    → fold (λ t id. with_contexts (map (f id) t.contexts) t) s ids ≡ with_contexts (map (in_turn f ids) s.contexts) s
fold-contexts f [] s = ap (λ cs. with_contexts cs s) (sym (map-none s.contexts))
fold-contexts f (id ∷ ids) s = grind (arith, nat_tests, map-map, fold-contexts f ids (with_contexts (map (f id) s.contexts) s))

-- so for changes of instances
abbrev one_changed : (Instance → Instance) → ℕ → Instance → Instance
one_changed f id i = if has_id id i then f i else i

group-twice : (f g : Instance → Instance) (h : Group) → change_group f (change_group g h) ≡ change_group (λ i. f (g i)) h
group-twice f g h = ap (λ siblings. record { leader = f (g h.leader); siblings = siblings }) (map-map f g h.siblings)

groups-twice : (f g : Instance → Instance) (groups : List Group) → map (change_group f) (map (change_group g) groups) ≡ map (change_group (λ i. f (g i))) groups
groups-twice f g [] = refl
groups-twice f g (h ∷ groups) = rw (group-twice f g h, groups-twice f g groups) refl

lists-twice : (f g : Instance → Instance) (l : Lists) → change_lists f (change_lists g l) ≡ change_lists (λ i. f (g i)) l
lists-twice f g l = rw (groups-twice f g l.pinned, groups-twice f g l.flexible) refl

groups-unchanged : (groups : List Group) → map (change_group (λ i. i)) groups ≡ groups
groups-unchanged [] = refl
groups-unchanged (g ∷ groups) = rw (map-none g.siblings, groups-unchanged groups) refl

lists-in_turn : (f : Instance → Instance) (ids : List ℕ) (l : Lists) → in_turn (λ id. change_lists (one_changed f id)) ids l ≡ change_lists (in_turn (one_changed f) ids) l
lists-in_turn f [] l = rw (groups-unchanged l.pinned, groups-unchanged l.flexible) refl
lists-in_turn f (id ∷ ids) l = lists-in_turn f ids (change_lists (one_changed f id) l) ∙ lists-twice (in_turn (one_changed f) ids) (one_changed f id) l

-- an instance whose id stands once is changed, and one whose id does not stand is not
in_turn-is : (f : Instance → Instance) → ((i : Instance) → (f i).id ≡ i.id) → (ids : List ℕ) (i : Instance) (b : Bool) → StandsAs ids i b
    → in_turn (one_changed f) ids i ≡ (if b then f i else i)
in_turn-is f keeps [] i true h = absurd (omega (arith, h))
in_turn-is f keeps [] i false h = refl
in_turn-is f keeps (id ∷ ids) i true h = elim (cases_Bool (has_id id i)) [
  | inl e ↦ rw e (in_turn-is f keeps ids (f i) false (rw (keeps i) (omega (arith, h, count-cons (λ n. i.id == n) id ids, ap as_number e))))
  | inr e ↦ rw e (in_turn-is f keeps ids i true (omega (arith, h, count-cons (λ n. i.id == n) id ids, ap as_number e)))
]
in_turn-is f keeps (id ∷ ids) i false h = elim (cases_Bool (has_id id i)) [
  | inl e ↦ absurd (omega (arith, h, count-cons (λ n. i.id == n) id ids, ap as_number e))
  | inr e ↦ rw e (in_turn-is f keeps ids i false (omega (arith, h, count-cons (λ n. i.id == n) id ids, ap as_number e)))
]

-- changes that agree on each instance
group-same_change : (f g : Instance → Instance) (h : Group) → InGroup (λ i. f i ≡ g i) h → change_group f h ≡ change_group g h
unfolding Each
group-same_change f g h same = rw (same.0, map-same_each f g h.siblings same.1) refl

groups-same_change : (f g : Instance → Instance) (groups : List Group) → Each (InGroup (λ i. f i ≡ g i)) groups → map (change_group f) groups ≡ map (change_group g) groups
groups-same_change f g groups same = grind (arith, nat_tests, map-same_each, weaker-Each, InGroup, group-same_change)

lists-same_change : (f g : Instance → Instance) (l : Lists) → InLists (λ i. f i ≡ g i) l → change_lists f l ≡ change_lists g l
lists-same_change f g l same = rw (groups-same_change f g l.pinned same.in_pinned, groups-same_change f g l.flexible same.in_flexible) refl

pub change-same : (f g : Instance → Instance) (s : Stage) → Each (λ i. f i ≡ g i) (all_instances s) → change_each f s ≡ change_each g s
change-same f g s same =
    ap (λ cs. with_contexts cs s) (map-same_each (change_lists f) (change_lists g) s.contexts
    (weaker-Each (InLists (λ i. f i ≡ g i)) (λ l. change_lists f l ≡ change_lists g l) (lists-same_change f g) s.contexts (InStage-from_all (λ i. f i ≡ g i) s same)))

-- some instances changed in turn
pub changed_in_turn : (f : Instance → Instance) → ((i : Instance) → (f i).id ≡ i.id) → (test : Instance → Bool) (s : Stage) (ids : List ℕ) → IsNumbered s
    → AreIdsOf (filter test (all_instances s)) ids → change_ones f ids s ≡ change_each (λ i. if test i then f i else i) s
changed_in_turn f keeps test s ids numbered order =
    fold-contexts (λ id. change_lists (one_changed f id)) ids s
    ∙ (ap (λ cs. with_contexts cs s) (map-same (in_turn (λ id. change_lists (one_changed f id)) ids) (change_lists (in_turn (one_changed f) ids)) (lists-in_turn f ids) s.contexts)
    ∙ change-same (in_turn (one_changed f) ids) (λ i. if test i then f i else i) s
    (weaker-Each (λ i. StandsAs ids i (test i)) (λ i. in_turn (one_changed f) ids i ≡ (if test i then f i else i)) (λ i h. in_turn-is f keeps ids i (test i) h) (all_instances s)
    (each-stands test (all_instances s) ids numbered.once order)))

pub commanded_in_turn : CommandOneByOneLaw
unfolding command_each
commanded_in_turn f events s ids numbered order = changed_in_turn (with_own f) (λ i. refl) (is_reached events) s ids numbered order

-- the ids in order
pub eq-turn : (m n : ℕ) → as_number (m == n) ≡ as_number (n == m)
eq-turn m n = grind (arith, nat_tests)

pub ids-in_order : IdsLaw
ids-in_order [] n = refl
ids-in_order (i ∷ is) n = omega (arith, count-cons (λ id. n == id) i.id (ids_of is), count-cons (has_id n) i is, ids-in_order is n, eq-turn n i.id)

left-le : (b c : Bool) → as_number (b && c) ≤ as_number b
left-le true true = omega arith
left-le true false = omega arith
left-le false c = omega arith

right-le : (b c : Bool) → as_number (b && c) ≤ as_number c
right-le true c = omega arith
right-le false c = omega arith

-- the original of a slot is the one instance that its id names
both_tests : (p q : Instance → Bool) (xs : List Instance) (i : Instance) → find p xs ≡ Some i → q i ≡ true → count_by p xs ≤ 1 → count_by q xs ≤ 1 → Each (λ j. p j ≡ q j) xs
both_tests p q xs i found named one_p one_q =
    let both : Instance → Bool = λ j. p j && q j in
    let here : one_if both i ≡ 1 = ap as_number (ap (λ b. b && q i) (find-passes p xs i found) ∙ named) in
    let there : 1 ≤ total (one_if both) xs = omega (arith, here, found_weighs (one_if both) p xs i found) in
    let first : Each (λ j. one_if both j ≡ one_if p j) xs =
    each-same (one_if both) (one_if p) xs (all-Each (λ j. one_if both j ≤ one_if p j) (λ j. left-le (p j) (q j)) xs) (omega (arith, one_p, there, count_by-is-total p xs)) in
    let second : Each (λ j. one_if both j ≡ one_if q j) xs =
    each-same (one_if both) (one_if q) xs (all-Each (λ j. one_if both j ≤ one_if q j) (λ j. right-le (p j) (q j)) xs) (omega (arith, one_q, there, count_by-is-total q xs)) in
    weaker-Each (λ j. (one_if both j ≡ one_if p j) × (one_if both j ≡ one_if q j)) (λ j. p j ≡ q j) (λ j h. same_tests (p j) (q j) (sym h.0 ∙ h.1)) xs
    (pair-Each (λ j. one_if both j ≡ one_if p j) (λ j. one_if both j ≡ one_if q j) xs first second)

-- so a change of the original is a change of the instance of its id
same_branch : (b c : Bool) (x y : Instance) → b ≡ c → (if b then x else y) ≡ (if c then x else y)
same_branch b c x y e = ap (λ d. if d then x else y) e

pub changed_one : (f : Instance → Instance) (e : EventNo) (s : Stage) (i : Instance) → IsNumbered s → original_of s e ≡ Some i
    → change_one f i.id s ≡ change_each (λ j. if is_original e j then f j else j) s
changed_one f e s i numbered found =
    change-same (λ j. if has_id i.id j then f j else j) (λ j. if is_original e j then f j else j) s
    (weaker-Each (λ j. is_original e j ≡ has_id i.id j) (λ j. (if has_id i.id j then f j else j) ≡ (if is_original e j then f j else j))
    (λ j h. same_branch (has_id i.id j) (is_original e j) (f j) j (sym h)) (all_instances s)
    (both_tests (is_original e) (has_id i.id) (all_instances s) i found (same_tests (has_id i.id i) true (has_own_id i)) (numbered.one_original e) (numbered.once i.id)))

pub period-one : PeriodOneLaw
unfolding with_period
period-one e period s i numbered found = changed_one (λ j. record j { attr = record j.attr { period = period } }) e s i numbered found

pub ring-one : RingOneLaw
ring-one e ring owner s i numbered found = changed_one (λ j. record j { ring = ring; mapped = owner }) e s i numbered found

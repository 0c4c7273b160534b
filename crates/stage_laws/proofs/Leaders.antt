-- A group whose leader is the original in a slot is the one that the slot is found in, since a slot has at most one
-- original.
use Rattle.std.specs.{Prelude.{◌≡◌, ◌+◌, ◌≤◌, Bool, true, false, List, [], ◌∷◌, ◌++◌, count_by, find, Some, cond}, List.{list_any}}
use Rattle.std.proofs.{Common.{refl, ap, ◌∙◌, arith, inl, inr}, lemmas.Bool.{cases_Bool, both_ways, or_parts, or_cases, or_left}}
use Rattle.perf_base.specs.declared.numbers.EventNo.{EventNo}
use Rattle.stage_spec.{specs.Stage.{Group, members_of, members, is_original}, proofs.{Each.{Each, head-Each, weaker-Each}, Parts.{joined-Each}}}
use Rattle.stage_laws.proofs.{Totals.{as_number}, Counts.{count-cons, count-append}}

-- what passes a test
at_least_one : {X : Type 0} (p : X → Bool) (xs : List X) → list_any p xs ≡ true → 1 ≤ count_by p xs
at_least_one p [] h = absurd (both_ways false refl h)
at_least_one p (x ∷ xs) h = elim (or_cases (p x) (list_any p xs) h) [
  | inl here ↦ omega (arith, count-cons p x xs, ap as_number here)
  | inr later ↦ omega (arith, count-cons p x xs, at_least_one p xs later)
]

pub none_counted : {X : Type 0} (p : X → Bool) (xs : List X) → count_by p xs ≡ 0 → Each (λ x. p x ≡ false) xs
unfolding Each
none_counted p [] h = tt
none_counted p (x ∷ xs) h = grind (arith, count-cons, as_number, none_counted p xs (omega (arith, h, count-cons p x xs)))

pub find-first : {X : Type 0} (p : X → Bool) (x : X) (xs : List X) → p x ≡ true → find p (x ∷ xs) ≡ Some x
find-first p x xs h = ap (λ b. cond b (Some x) (find p xs)) h

pub find-later : {X : Type 0} (p : X → Bool) (x : X) (xs : List X) → p x ≡ false → find p (x ∷ xs) ≡ find p xs
find-later p x xs h = ap (λ b. cond b (Some x) (find p xs)) h

find-past : {X : Type 0} (p : X → Bool) (xs ys : List X) → list_any p xs ≡ false → find p (xs ++ ys) ≡ find p ys
find-past p [] ys h = refl
find-past p (x ∷ xs) ys h =
    let none = or_parts (p x) (list_any p xs) h in
    find-later p x (xs ++ ys) none.0 ∙ find-past p xs ys none.1

-- what a search finds where at most one passes
pub found_only : {X : Type 0} (p : X → Bool) (xs : List X) → count_by p xs ≤ 1 → Each (λ x. p x ≡ true → find p xs ≡ Some x) xs
unfolding Each
found_only p [] h = tt
found_only p (x ∷ xs) h = elim (cases_Bool (p x)) [
  | inl some ↦ (
    find-first p x xs,
    weaker-Each (λ y. p y ≡ false) (λ y. p y ≡ true → find p (x ∷ xs) ≡ Some y) (λ y none passes. absurd (both_ways (p y) none passes)) xs
        (none_counted p xs (omega (arith, h, count-cons p x xs, ap as_number some))),
  )
  | inr none ↦ (
    find-first p x xs,
    weaker-Each (λ y. p y ≡ true → find p xs ≡ Some y) (λ y. p y ≡ true → find p (x ∷ xs) ≡ Some y) (λ y k passes. find-later p x xs none ∙ k passes) xs
        (found_only p xs (omega (arith, h, count-cons p x xs))),
  )
]

abbrev has_original : EventNo → Group → Bool
has_original e g = list_any (is_original e) (members_of g)

-- the group and the leader are what a slot is found in, where the leader is its original
pub record IsFound (e : EventNo) (groups : List Group) (g : Group) : Type 0 where
  pub group : find (λ h. list_any (is_original e) (members_of h)) groups ≡ Some g
  pub leader : find (is_original e) (members groups) ≡ Some g.leader

abbrev pub IsLed : EventNo → List Group → Group → Type 0
IsLed e groups g = is_original e g.leader ≡ true → IsFound e groups g

IsLed-later : (e : EventNo) (first : Group) (groups : List Group) → has_original e first ≡ false → (g : Group) → IsLed e groups g → IsLed e (first ∷ groups) g
IsLed-later e first groups none g h led = grind (arith, find-later, find-past)

none_led : (e : EventNo) (all groups : List Group) → count_by (is_original e) (members groups) ≡ 0 → Each (IsLed e all) groups
none_led e all groups h =
    weaker-Each (λ g. Each (λ i. is_original e i ≡ false) (members_of g)) (IsLed e all)
    (λ g none led. absurd (both_ways (is_original e g.leader) (head-Each (λ i. is_original e i ≡ false) g.leader g.siblings none) led)) groups
    (joined-Each (λ i. is_original e i ≡ false) members_of groups (none_counted (is_original e) (members groups) h))

pub all_led : (e : EventNo) (groups : List Group) → count_by (is_original e) (members groups) ≤ 1 → Each (IsLed e groups) groups
unfolding Each
all_led e [] h = tt
all_led e (first ∷ groups) h =
    let counts : count_by (is_original e) (members (first ∷ groups)) ≡ count_by (is_original e) (members_of first) + count_by (is_original e) (members groups) =
    count-append (is_original e) (members_of first) (members groups) in
    let here : IsLed e (first ∷ groups) first = grind (arith, find-first, or_left) in
    elim (cases_Bool (has_original e first)) [
      | inl some ↦ (here, none_led e (first ∷ groups) groups (omega (arith, h, counts, at_least_one (is_original e) (members_of first) some)))
      | inr none ↦ (here, weaker-Each (IsLed e groups) (IsLed e (first ∷ groups)) (IsLed-later e first groups none) groups (all_led e groups (omega (arith, h, counts))))
    ]

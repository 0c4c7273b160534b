-- How many elements pass a test, in parts of a list and at places of a list of lists.
use Rattle.std.specs.Prelude.{◌≡◌, ◌≢◌, ℕ, ◌+◌, ◌≤◌, Bool, List, [], ◌∷◌, ◌++◌, length, map, filter, count_by, sum_by}
use Rattle.std.proofs.Common.{arith, sym, ap, ◌∙◌, inl, inr, get_or, set, get_or-set_same, get_or-set_other, ext_get_or, length-set}
use Rattle.std.proofs.lemmas.{Bool.{cases_lt, cases_eq}, List.{get_or_past, length-map, Sums.{sum_by-cons, sum_by-append, sum_by-set}}}
use Rattle.std.proofs.Math.{ListN.{get_or-map}, Seq.{set_out}}
use Rattle.stage_laws.proofs.Totals.{as_number}

pub count-cons : {X : Type 0} (p : X → Bool) (x : X) (xs : List X) → count_by p (x ∷ xs) ≡ as_number (p x) + count_by p xs
count-cons p x xs = sum_by-cons (λ y. as_number (p y)) x xs

pub count-append : {X : Type 0} (p : X → Bool) (xs ys : List X) → count_by p (xs ++ ys) ≡ count_by p xs + count_by p ys
count-append p xs ys = sum_by-append (λ y. as_number (p y)) xs ys

pub count-filter : {X : Type 0} (p q : X → Bool) (xs : List X) → count_by p (filter q xs) ≤ count_by p xs
count-filter p q [] = omega arith
count-filter p q (x ∷ xs) = grind (arith, count-cons, count-filter p q xs)

-- what is found at one place, at two and at three, is no more than all
pub one_place : {X : Type 0} (w : X → ℕ) (d : X) → w d ≡ 0 → (xs : List X) (i : ℕ) → w (get_or xs i d) + sum_by w (set xs i d) ≡ sum_by w xs
one_place w d none xs i = grind (arith, cases_lt, sum_by-set, get_or_past, set_out)

pub two_places : {X : Type 0} (w : X → ℕ) (d : X) → w d ≡ 0 → (xs : List X) (i j : ℕ) → i ≢ j → w (get_or xs i d) + w (get_or xs j d) ≤ sum_by w xs
two_places w d none xs i j apart =
    let other : w (get_or (set xs i d) j d) ≡ w (get_or xs j d) = ap w (get_or-set_other xs i j d d (λ e. apart (sym e))) in
    omega (arith, one_place w d none xs i, one_place w d none (set xs i d) j, other)

pub three_places : {X : Type 0} (w : X → ℕ) (d : X) → w d ≡ 0 → (xs : List X) (i j k : ℕ) → i ≢ j → i ≢ k → j ≢ k
    → w (get_or xs i d) + w (get_or xs j d) + w (get_or xs k d) ≤ sum_by w xs
three_places w d none xs i j k ij ik jk =
    let second : w (get_or (set xs i d) j d) ≡ w (get_or xs j d) = ap w (get_or-set_other xs i j d d (λ e. ij (sym e))) in
    let third : w (get_or (set xs i d) k d) ≡ w (get_or xs k d) = ap w (get_or-set_other xs i k d d (λ e. ik (sym e))) in
    omega (arith, one_place w d none xs i, two_places w d none (set xs i d) j k jk, second, third)

-- a change that matters at one place alone, and at two
get-map : {X : Type 0} (f : X → X) (d : X) → f d ≡ d → (xs : List X) (k : ℕ) → get_or (map f xs) k d ≡ f (get_or xs k d)
get-map f d none xs k = ap (get_or (map f xs) k) (sym none) ∙ get_or-map f xs k d

pub map-at_one : {X : Type 0} (f : X → X) (d : X) → f d ≡ d → (xs : List X) (i : ℕ) → ((k : ℕ) → k ≢ i → f (get_or xs k d) ≡ get_or xs k d)
    → set xs i (f (get_or xs i d)) ≡ map f xs
map-at_one f d none xs i others =
    let lengths : length (set xs i (f (get_or xs i d))) ≡ length xs = length-set xs i (f (get_or xs i d)) in
    ext_get_or d (set xs i (f (get_or xs i d))) (map f xs) (lengths ∙ sym (length-map xs f)) (λ k lt. elim (cases_eq k i) [
      | inl e ↦ rw e (get_or-set_same xs i (f (get_or xs i d)) d (omega (arith, lt, lengths, e)) ∙ sym (get-map f d none xs i))
      | inr ne ↦ get_or-set_other xs i k (f (get_or xs i d)) d ne ∙ (sym (others k ne) ∙ sym (get-map f d none xs k))
    ])

pub map-at_two : {X : Type 0} (f : X → X) (d : X) → f d ≡ d → (xs : List X) (i j : ℕ) → i ≢ j → ((k : ℕ) → k ≢ i → k ≢ j → f (get_or xs k d) ≡ get_or xs k d)
    → set (set xs i (f (get_or xs i d))) j (f (get_or xs j d)) ≡ map f xs
map-at_two {X = X} f d none xs i j apart others =
    let one : List X = set xs i (f (get_or xs i d)) in
    let two : List X = set one j (f (get_or xs j d)) in
    let lengths_one : length one ≡ length xs = length-set xs i (f (get_or xs i d)) in
    let lengths : length two ≡ length one = length-set one j (f (get_or xs j d)) in
    ext_get_or d two (map f xs) (lengths ∙ (lengths_one ∙ sym (length-map xs f))) (λ k lt. elim (cases_eq k j) [
      | inl e ↦ rw e (get_or-set_same one j (f (get_or xs j d)) d (omega (arith, lt, lengths, e)) ∙ sym (get-map f d none xs j))
      | inr ne ↦ get_or-set_other one j k (f (get_or xs j d)) d ne ∙ elim (cases_eq k i) [
        | inl e ↦ rw e (get_or-set_same xs i (f (get_or xs i d)) d (omega (arith, lt, lengths, lengths_one, e)) ∙ sym (get-map f d none xs i))
        | inr other ↦ get_or-set_other xs i k (f (get_or xs i d)) d other ∙ (sym (others k other ne) ∙ sym (get-map f d none xs k))
      ]
    ])

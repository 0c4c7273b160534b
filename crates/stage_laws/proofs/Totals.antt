-- Sums over a list of a number for each element, by recursion on the list.
use Rattle.std.specs.Prelude.{◌≡◌, ℕ, zero, suc, ◌+◌, ◌*◌, ◌<◌, ◌≤◌, Bool, true, false, cond, List, [], ◌∷◌, ◌++◌, map, filter, flat_map, length, replicate, All, count_by, sum_by, slice_index_or, slice_set}
use Rattle.std.proofs.{Common.{arith, refl}, Math.Nat.{add-mul}, lemmas.List.{Sums.{sum_by-cons}, Elements.{All-nil, All-cons, All-head, All-tail}}}

unfoldable pub total : {X : Type 0} → (X → ℕ) → List X → ℕ
total f [] = 0
total f (x ∷ xs) = f x + total f xs

-- 1 where a test holds
abbrev pub as_number : Bool → ℕ
as_number b = cond b 1 0

abbrev pub one_if : {X : Type 0} → (X → Bool) → X → ℕ
one_if test x = as_number (test x)

pub total-nil : {X : Type 0} (f : X → ℕ) → total f [] ≡ 0
unfolding total
total-nil f = refl

pub total-cons : {X : Type 0} (f : X → ℕ) (x : X) (xs : List X) → total f (x ∷ xs) ≡ f x + total f xs
unfolding total
total-cons f x xs = refl

pub total-append : {X : Type 0} (f : X → ℕ) (xs ys : List X) → total f (xs ++ ys) ≡ total f xs + total f ys
unfolding total
total-append f [] ys = omega arith
total-append f (x ∷ xs) ys = omega (arith, total-append f xs ys)

pub total-push : {X : Type 0} (f : X → ℕ) (xs : List X) (x : X) → total f (xs ++ x ∷ []) ≡ total f xs + f x
unfolding total
total-push f xs x = omega (arith, total-append f xs (x ∷ []))

pub total-map : {X Y : Type 0} (f : Y → ℕ) (g : X → Y) (xs : List X) → total f (map g xs) ≡ total (λ x. f (g x)) xs
unfolding total
total-map f g [] = refl
total-map f g (x ∷ xs) = omega (arith, total-map f g xs)

pub total-flat_map : {X Y : Type 0} (f : Y → ℕ) (g : X → List Y) (xs : List X) → total f (flat_map g xs) ≡ total (λ x. total f (g x)) xs
unfolding total
total-flat_map f g [] = refl
total-flat_map f g (x ∷ xs) = omega (arith, total-append f (g x) (flat_map g xs), total-flat_map f g xs)

pub total-same : {X : Type 0} (f g : X → ℕ) → ((x : X) → f x ≡ g x) → (xs : List X) → total f xs ≡ total g xs
unfolding total
total-same f g h [] = refl
total-same f g h (x ∷ xs) = omega (arith, h x, total-same f g h xs)

pub total-le : {X : Type 0} (f g : X → ℕ) → ((x : X) → f x ≤ g x) → (xs : List X) → total f xs ≤ total g xs
unfolding total
total-le f g h [] = omega arith
total-le f g h (x ∷ xs) = omega (arith, h x, total-le f g h xs)

pub total-plus : {X : Type 0} (f g : X → ℕ) (xs : List X) → total (λ x. f x + g x) xs ≡ total f xs + total g xs
unfolding total
total-plus f g [] = refl
total-plus f g (x ∷ xs) = omega (arith, total-plus f g xs)

pub total-none : {X : Type 0} (xs : List X) → total (λ x. 0) xs ≡ 0
unfolding total
total-none [] = refl
total-none (x ∷ xs) = omega (arith, total-none xs)

kept_or_not : {X : Type 0} (f : X → ℕ) (b : Bool) (x : X) (xs : List X) → total f (cond b (x ∷ xs) xs) ≡ cond b (f x) 0 + total f xs
unfolding total
kept_or_not f true x xs = refl
kept_or_not f false x xs = omega arith

cond_le : (b : Bool) (n : ℕ) → cond b n 0 ≤ n
cond_le true n = omega arith
cond_le false n = omega arith

pub total-filter : {X : Type 0} (f : X → ℕ) (test : X → Bool) (xs : List X) → total f (filter test xs) ≡ total (λ x. cond (test x) (f x) 0) xs
unfolding total
total-filter f test [] = refl
total-filter f test (x ∷ xs) = omega (arith, kept_or_not f (test x) x (filter test xs), total-filter f test xs)

pub total-replicate : {X : Type 0} (f : X → ℕ) (n : ℕ) (x : X) → f x ≡ 0 → total f (replicate n x) ≡ 0
unfolding total
total-replicate f zero x h = refl
total-replicate f (suc n) x h = omega (arith, h, total-replicate f n x h)

-- one element changed
pub total-set : {X : Type 0} (f : X → ℕ) (xs : List X) (i : ℕ) (y d : X) → i < length xs → total f (slice_set xs i y) + f (slice_index_or xs i d) ≡ total f xs + f y
unfolding total
total-set f [] i y d h = absurd (omega (arith, h))
total-set f (x ∷ xs) zero y d h = omega arith
total-set f (x ∷ xs) (suc i) y d h = omega (arith, total-set f xs i y d (omega (arith, h)))

pub get_or-le-total : {X : Type 0} (f : X → ℕ) (xs : List X) (i : ℕ) (d : X) → f d ≡ 0 → f (slice_index_or xs i d) ≤ total f xs
unfolding total
get_or-le-total f [] i d h = omega (arith, h)
get_or-le-total f (x ∷ xs) zero d h = omega arith
get_or-le-total f (x ∷ xs) (suc i) d h = omega (arith, get_or-le-total f xs i d h)

-- sums and counts of std
pub sum_by-is-total : {X : Type 0} (f : X → ℕ) (xs : List X) → sum_by f xs ≡ total f xs
unfolding total
sum_by-is-total f [] = refl
sum_by-is-total f (x ∷ xs) = omega (arith, sum_by-cons f x xs, sum_by-is-total f xs)

pub count_by-is-total : {X : Type 0} (test : X → Bool) (xs : List X) → count_by test xs ≡ total (one_if test) xs
count_by-is-total test xs = sum_by-is-total (one_if test) xs

-- what weighs nothing holds of each element
pub All-by_total : {X : Type 0} (f : X → ℕ) (P : X → Type 0) → ((x : X) → f x ≡ 0 → P x) → (xs : List X) → total f xs ≡ 0 → All P xs
unfolding total
All-by_total f P h [] e = All-nil P
All-by_total f P h (x ∷ xs) e = All-cons P x xs (h x (omega (arith, e))) (All-by_total f P h xs (omega (arith, e)))

pub total-by_All : {X : Type 0} (f : X → ℕ) (P : X → Type 0) → ((x : X) → P x → f x ≡ 0) → (xs : List X) → All P xs → total f xs ≡ 0
unfolding total
total-by_All f P h [] all = refl
total-by_All f P h (x ∷ xs) all = omega (arith, h x (All-head P x xs all), total-by_All f P h xs (All-tail P x xs all))

-- a number for each element that passes a test
cond-times : (b : Bool) (n : ℕ) → cond b n 0 ≡ cond b 1 0 * n
cond-times true n = omega arith
cond-times false n = omega arith

pub total-times : {X : Type 0} (test : X → Bool) (n : ℕ) (xs : List X) → total (λ x. cond (test x) n 0) xs ≡ total (one_if test) xs * n
unfolding total
total-times test n [] = grind arith
total-times test n (x ∷ xs) = omega (arith, cond-times (test x) n, add-mul (one_if test x) (total (one_if test) xs) n, total-times test n xs)

pub total-ones : {X : Type 0} (xs : List X) → total (λ x. 1) xs ≡ length xs
unfolding total
total-ones [] = refl
total-ones (x ∷ xs) = omega (arith, total-ones xs)

pub total-filter_le : {X : Type 0} (f : X → ℕ) (test : X → Bool) (xs : List X) → total f (filter test xs) ≤ total f xs
unfolding total
total-filter_le f test [] = omega arith
total-filter_le f test (x ∷ xs) = omega (arith, kept_or_not f (test x) x (filter test xs), cond_le (test x) (f x), total-filter_le f test xs)

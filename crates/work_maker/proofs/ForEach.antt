-- Lists made from the numbers from 0 on.
use Rattle.std.proofs.Common.{◌≡◌, ℕ, zero, suc, ◌+◌, ◌*◌, ◌<◌, ◌≤◌, List, [], ◌∷◌, ◌++◌, length, get_or, All, sym, ap, refl, subst, arith, ◌∙◌}
use Rattle.std.proofs.lemmas.List.{append-nil, append_assoc, length-append, Elements.{All-nil, All-append}}
use Rattle.std.proofs.lemmas.List.{FromFn.{length-map-range_with_len, get_or-map-range_with_len, map-range_with_len_more}, Sums.{sum_by-append}}
use Rattle.std.specs.{Prelude.{AllPairs, sum_by, flat_map}, List.{range_with_len}}
use Rattle.work_maker.specs.Rounds.{for_each, for_each_all}

-- the value at one of the numbers
at_number : {X : Type 0} (P : X → Type 0) (f : ℕ → X) (n k : ℕ) (d : X) → k < n → P (f k) → P (get_or (for_each n f) k d)
at_number P f n k d l h = subst P (sym (get_or-map-range_with_len f 0 n k k d l (omega arith))) h

-- what holds of f of each number holds of each entry
pub all_for_each : {X : Type 0} (P : X → Type 0) (f : ℕ → X) (n : ℕ) → ((k : ℕ) → k < n → P (f k)) → All P (for_each n f)
all_for_each P f n h k d l =
    let k_in : k < n = omega (arith, length-map-range_with_len f 0 n) in
    at_number P f n k d k_in (h k k_in)

-- and of each two, an earlier and a later one
pub pairs_for_each : {X : Type 0} (R : X → X → Type 0) (f : ℕ → X) (n : ℕ) → ((j k : ℕ) → j < k → k < n → R (f j) (f k)) → AllPairs R (for_each n f)
pairs_for_each R f n h j k d before l =
    let k_in : k < n = omega (arith, length-map-range_with_len f 0 n) in
    let j_in : j < n = omega arith in
    at_number (λ x. R x (get_or (for_each n f) k d)) f n j d j_in (at_number (R (f j)) f n k d k_in (h j k before k_in))

pub for_each-more : {X : Type 0} (f : ℕ → X) (n : ℕ) → for_each (n + 1) f ≡ for_each n f ++ f n ∷ []
for_each-more f n = map-range_with_len_more f 0 n n (omega arith)

-- one number more, at the end
last_lists : {X : Type 0} (f : ℕ → List X) (a n j : ℕ) → a + n ≡ j → flat_map f (range_with_len a (suc n)) ≡ flat_map f (range_with_len a n) ++ f j
last_lists f a zero j e = grind (arith, append-nil)
last_lists f a (suc n) j e =
    let rest : a + 1 + n ≡ j = omega arith in
    ap (λ ys. f a ++ ys) (last_lists f (a + 1) n j rest) ∙ sym (append_assoc (f a) (flat_map f (range_with_len (a + 1) n)) (f j))

pub for_each_all-more : {X : Type 0} (f : ℕ → List X) (n : ℕ) → for_each_all (n + 1) f ≡ for_each_all n f ++ f n
for_each_all-more f n = grind (arith, suc, last_lists)

all_from : {X : Type 0} (P : X → Type 0) (f : ℕ → List X) (a n : ℕ) → ((k : ℕ) → a ≤ k → k < a + n → All P (f k)) → All P (flat_map f (range_with_len a n))
all_from P f a zero h = All-nil P
all_from P f a (suc n) h = All-append P (f a) (flat_map f (range_with_len (a + 1) n)) (h a (omega arith) (omega arith)) (all_from P f (a + 1) n (λ k l m. h k (omega arith) (omega arith)))

-- what holds of each entry of each list holds of each entry
pub all_for_each_all : {X : Type 0} (P : X → Type 0) (f : ℕ → List X) (n : ℕ) → ((k : ℕ) → k < n → All P (f k)) → All P (for_each_all n f)
all_for_each_all P f n h = all_from P f 0 n (λ k l m. h k (omega arith))

sum_from : {X : Type 0} (g : X → ℕ) (f : ℕ → List X) → ((k : ℕ) → sum_by g (f k) ≡ 4) → (a n : ℕ) → sum_by g (flat_map f (range_with_len a n)) ≡ 4 * n
sum_from g f h a zero = refl
sum_from g f h a (suc n) = omega (arith, sum_by-append g (f a) (flat_map f (range_with_len (a + 1) n)), h a, sum_from g f h (a + 1) n)

-- the sum, where each list has four
pub sum_of_fours : {X : Type 0} (g : X → ℕ) (f : ℕ → List X) → ((k : ℕ) → sum_by g (f k) ≡ 4) → (n : ℕ) → sum_by g (for_each_all n f) ≡ 4 * n
sum_of_fours g f h n = sum_from g f h 0 n

length_from : {X : Type 0} (f : ℕ → List X) → ((k : ℕ) → length (f k) ≡ 4) → (a n : ℕ) → length (flat_map f (range_with_len a n)) ≡ 4 * n
length_from f h a zero = refl
length_from f h a (suc n) = omega (arith, length-append (f a) (flat_map f (range_with_len (a + 1) n)), h a, length_from f h (a + 1) n)

-- and the length
pub length_of_fours : {X : Type 0} (f : ℕ → List X) → ((k : ℕ) → length (f k) ≡ 4) → (n : ℕ) → length (for_each_all n f) ≡ 4 * n
length_of_fours f h n = length_from f h 0 n

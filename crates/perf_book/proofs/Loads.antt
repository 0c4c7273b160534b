-- Each ring's tail is loaded once more.
use Rattle.std.specs.Prelude.{◌≡◌, ℕ, zero, suc, ◌+◌, ◌<◌, ◌≤◌, List, [], ◌∷◌, ◌++◌, drop, length, map, slice_index_or, slice_set, take}
use Rattle.std.proofs.Common.{arith, refl, ap, ◌∙◌}

-- the first numbers of a list are one more each, the rest as they were
abbrev pub part_more : ℕ → List ℕ → List ℕ
part_more k xs = map (λ n. n + 1) (take k xs) ++ drop k xs

next-more : (xs : List ℕ) (k : ℕ) → k < length xs → slice_set (part_more k xs) k (slice_index_or (part_more k xs) k 0 + 1) ≡ part_more (suc k) xs
next-more [] k low = absurd (omega (arith, low))
next-more (x ∷ xs) zero low = refl
next-more (x ∷ xs) (suc k) low = ap (λ l. (x + 1) ∷ l) (next-more xs k (omega (arith, low)))

pub one-more : (xs now then : List ℕ) (k : ℕ) → k < length xs → now ≡ part_more k xs → then ≡ slice_set now k (slice_index_or now k 0 + 1) → then ≡ part_more (k + 1) xs
one-more xs now then k low is set = grind (arith, next-more)

all-more : (xs : List ℕ) (k : ℕ) → length xs ≤ k → part_more k xs ≡ map (λ n. n + 1) xs
all-more [] zero past = refl
all-more [] (suc k) past = refl
all-more (x ∷ xs) zero past = absurd (omega (arith, past))
all-more (x ∷ xs) (suc k) past = ap (λ l. (x + 1) ∷ l) (all-more xs k (omega (arith, past)))

pub each-more : (xs now : List ℕ) (k : ℕ) → length xs ≤ k → now ≡ part_more k xs → now ≡ map (λ n. n + 1) xs
each-more xs now k past is = is ∙ all-more xs k past

-- no load
pub none-more : (xs : List ℕ) → xs ≡ map (λ n. n + 0) xs
none-more [] = refl
none-more (x ∷ xs) = let e : x ≡ x + 0 = omega arith in (λ i. e i ∷ none-more xs i)

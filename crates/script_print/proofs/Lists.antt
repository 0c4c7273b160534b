-- Entries of a list, and lists that are filled one after the other.
use Rattle.std.proofs.Common.{◌≡◌, ℕ, zero, suc, ◌<◌, All, List, [], ◌∷◌, ◌++◌, length, get_or, set, take, replicate, refl, sym, ap, subst, arith}
use Rattle.std.proofs.lemmas.List.{get_or_append_left, length-append, FromFn.{get_or-range_with_len}, Folds.{sum_by-replicate}}
use Rattle.std.{proofs.lemmas.List.Sums.{sum_by-cons}, specs.{Prelude.{AllPairs, sum_by}, List.{range_with_len}}}
use Rattle.std.proofs.Math.Seq.{get_or-append_seam}

-- ---- an entry behind those before it

pub fewer : {X : Type 0} (done : List X) (x : X) (rest whole : List X) → done ++ x ∷ rest ≡ whole → length done < length whole
fewer done x rest whole e = omega (arith, length-append done (x ∷ rest), ap length e)

pub all_in : {X : Type 0} (P : X → Type 0) (done : List X) (x : X) (rest whole : List X) → done ++ x ∷ rest ≡ whole → All P whole → P x
all_in P done x rest whole e h = subst P (get_or-append_seam done x rest x) (subst (All P) (sym e) h (length done) x (fewer done x rest (done ++ x ∷ rest) refl))

pub pairs_in : {X : Type 0} (R : X → X → Type 0) (done : List X) (x : X) (rest whole : List X) → done ++ x ∷ rest ≡ whole → AllPairs R whole → All (λ d. R d x) done
pairs_in R done x rest whole e h = λ k d l.
    let pair = subst (AllPairs R) (sym e) h k (length done) d l (fewer done x rest (done ++ x ∷ rest) refl) in
    subst (λ y. R y x) (get_or_append_left done (x ∷ rest) d k l) (subst (λ y. R (get_or (done ++ x ∷ rest) k d) y) (get_or-append_seam done x rest d) pair)

-- a number's place among the numbers from 0 on
pub number_at : (n i d : ℕ) → i < n → get_or (range_with_len 0 n) i d ≡ i
number_at n i d l = let e = get_or-range_with_len 0 n i d l in omega (arith, e)

-- ---- lists that are filled one after the other

-- the first n lists, the entries done of the next, and nothing of the others
abbrev pub partly : {X : Type 0} → ℕ → List X → List (List X) → List (List X)
partly n done [] = []
partly zero done (x ∷ xs) = done ∷ replicate (length xs) []
partly (suc n) done (x ∷ xs) = x ∷ partly n done xs

pub partly_none : {X : Type 0} (xs : List (List X)) → partly zero [] xs ≡ replicate (length xs) []
partly_none [] = refl
partly_none (x ∷ xs) = refl

pub partly_all : {X : Type 0} (xs : List (List X)) → partly (length xs) [] xs ≡ xs
partly_all [] = refl
partly_all (x ∷ xs) = ap (λ ys. x ∷ ys) (partly_all xs)

pub partly_next : {X : Type 0} (n : ℕ) (xs : List (List X)) → n < length xs → partly n (get_or xs n []) xs ≡ partly (suc n) [] xs
partly_next n [] l = absurd (omega (arith, l))
partly_next zero (x ∷ []) l = refl
partly_next zero (x ∷ y ∷ xs) l = refl
partly_next (suc n) (x ∷ xs) l = ap (λ ys. x ∷ ys) (partly_next n xs (omega (arith, l)))

-- one entry more
pub partly_more : {X : Type 0} (n : ℕ) (done : List X) (x : X) (xs : List (List X)) → n < length xs → set (partly n done xs) n (get_or (partly n done xs) n [] ++ x ∷ []) ≡ partly n (done ++ x ∷ []) xs
partly_more n done x [] l = absurd (omega (arith, l))
partly_more zero done x (y ∷ xs) l = refl
partly_more (suc n) done x (y ∷ xs) l = ap (λ ys. y ∷ ys) (partly_more n done x xs (omega (arith, l)))

pub partly_fewer : {X : Type 0} (n : ℕ) (done : List X) (xs : List (List X)) → n < length xs → length done < length (get_or xs n []) → sum_by length (partly n done xs) < sum_by length xs
partly_fewer n done [] l m = absurd (omega (arith, l))
partly_fewer zero done (x ∷ xs) l m = omega (arith, m, sum_by-cons length x xs, sum_by-cons length done (replicate (length xs) []), sum_by-replicate length (length xs) (take 0 done))
partly_fewer (suc n) done (x ∷ xs) l m = let i = partly_fewer n done xs (omega (arith, l)) m in omega (arith, i, sum_by-cons length x xs, sum_by-cons length x (partly n done xs))

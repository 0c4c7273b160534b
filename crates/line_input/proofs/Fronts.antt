-- A list that keeps a front of what is added to it.
use Rattle.std.proofs.{Common.{◌≡◌, ◌⊎◌, ℕ, ◌<◌, ◌≤◌, inl, inr, List, [], ◌∷◌, ◌++◌, length, take, arith, sym, ap, ◌∙◌}, lemmas.{Bool.{cases_lt}, List.{length_push, length-take-le, take_all, take_at, take-append-le}}}

-- there is room for one more
pub front_grows : (most b : ℕ) (old new : List ℕ) → length old < most → new ≡ old ++ b ∷ [] → new ≡ take most (old ++ b ∷ [])
front_grows most b old new few is = is ∙ sym (take_all most (old ++ b ∷ []) (omega (arith, few, length_push old b)))

-- there is none
pub front_stays : (most b : ℕ) (old : List ℕ) → length old ≡ most → old ≡ take most (old ++ b ∷ [])
front_stays most b old full = sym (take_at old (b ∷ []) most full)

-- the front of a front with one more is that of the whole with one more
pub front_more : (most b : ℕ) (bytes : List ℕ) → take most (take most bytes ++ b ∷ []) ≡ take most (bytes ++ b ∷ [])
front_more most b bytes = more (cases_lt most (length bytes)) where
  more : (most < length bytes) ⊎ (length bytes ≤ most) → take most (take most bytes ++ b ∷ []) ≡ take most (bytes ++ b ∷ [])
  more (inl long) = take_at (take most bytes) (b ∷ []) most (length-take-le most bytes (omega (arith, long))) ∙ sym (take-append-le most bytes (b ∷ []) (omega (arith, long)))
  more (inr short) = ap (λ t. take most (t ++ b ∷ [])) (take_all most bytes short)

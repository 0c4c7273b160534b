-- Beginnings of lists.
use Rattle.std.proofs.Common.{◌≡◌, Bool, true, false, cond, nat_lt, ◌⊎◌, List, [], ◌∷◌, length, drop, get_or, refl, sym, ap, ◌∙◌, inl, inr, ⊎_elim, arith}
use mathlib.Core.List.{IsPrefix}
use Rattle.shared_object.specs.Histories.{longer}

module _ {A : Type 0} where
  -- of two beginnings of one list, one begins the other
  pub one_begins : (xs ys zs : List A) → IsPrefix xs zs → IsPrefix ys zs → IsPrefix xs ys ⊎ IsPrefix ys xs
  one_begins [] ys zs p q = inl (ys, refl)
  one_begins (x ∷ xs) [] zs p q = inr (x ∷ xs, refl)
  one_begins (x ∷ xs) (y ∷ ys) [] p q = absurd (omega (arith, ap length p.1))
  one_begins (x ∷ xs) (y ∷ ys) (z ∷ zs) p q =
      let same : x ≡ y = ap (λ (l : List A). get_or l 0 x) p.1 ∙ sym (ap (λ (l : List A). get_or l 0 x) q.1) in
      ⊎_elim (λ (r : IsPrefix xs ys). inl (r.0, λ i. same i ∷ r.1 i)) (λ (r : IsPrefix ys xs). inr (r.0, λ i. sym same i ∷ r.1 i))
      (one_begins xs ys zs (p.0, ap (drop 1) p.1) (q.0, ap (drop 1) q.1))

  longer_one : (b : Bool) (xs ys : List A) (P : List A → Type 0) → P xs → P ys → P (cond b ys xs)
  longer_one true xs ys P h k = k
  longer_one false xs ys P h k = h

  -- what is so of both lists is so of the longer
  pub longer_so : (xs ys : List A) (P : List A → Type 0) → P xs → P ys → P (longer xs ys)
  longer_so xs ys P h k = longer_one (nat_lt (length xs) (length ys)) xs ys P h k

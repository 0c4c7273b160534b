-- Lists of numbers by their places.
use Rattle.std.specs.{Prelude.{◌≢◌, nat_eq}, List.{list_any, IsDistinct}, Cmp.{nat_eq_equiv}}
use Rattle.std.proofs.Common.{◌≡◌, ℕ, suc, ◌<◌, ◌≤◌, true, List, [], ◌∷◌, length, get_or, sym, ◌∙◌, arith, inl, inr}
use Rattle.std.proofs.lemmas.{Bool.{cases_Bool, eq-eqb, eqb-true, ne_eqb}, List.{get_or_default, Folds.{list_any_at}}}
use Rattle.std.proofs.lemmas.Map.{Keys.{IsDistinct-from_apart}, Made.{length-le_from_is_member}}

-- the number stands at some place of the list
pub record In (xs : List ℕ) (x : ℕ) : Type 0 where
  pub place : ℕ
  pub within : place < length xs
  pub is : get_or xs place 0 ≡ x

pub In-from_any : (xs : List ℕ) (x : ℕ) → list_any (nat_eq x) xs ≡ true → In xs x
In-from_any [] x h = absurd (cc)
In-from_any (y ∷ xs) x h =
    elim (cases_Bool (nat_eq x y)) [
      | inl e ↦ record { place = 0; within = omega arith; is = sym (eqb-true x y e) }
      | inr e ↦ let t = In-from_any xs x (rw e at h) in record { place = suc t.place; within = omega (arith, t.within); is = t.is }
    ]

pub any-from_In : (xs : List ℕ) (x : ℕ) → In xs x → list_any (nat_eq x) xs ≡ true
any-from_In xs x h = list_any_at (nat_eq x) xs h.place 0 h.within (eq-eqb x _ (sym h.is))

-- no number stands at two places
pub record AreDifferent (xs : List ℕ) : Type 0 where
  pub different : (i j : ℕ) → i < j → j < length xs → get_or xs i 0 ≢ get_or xs j 0

pub IsDistinct-AreDifferent : (xs : List ℕ) → AreDifferent xs → IsDistinct nat_eq xs
IsDistinct-AreDifferent xs h =
    IsDistinct-from_apart nat_eq xs (λ i j d l m. ne_eqb _ _ (λ e.
    let li : i < length xs = omega arith in
    h.different i j l m (get_or_default xs i 0 d li ∙ (e ∙ get_or_default xs j d 0 m))))

-- different numbers, each of them in another list, are no more than that list has
pub length-le_from_In : (xs ys : List ℕ) → AreDifferent xs → ((i : ℕ) → i < length xs → In ys (get_or xs i 0)) → length xs ≤ length ys
length-le_from_In xs ys d h =
    length-le_from_is_member nat_eq_equiv xs ys (IsDistinct-AreDifferent xs d) (λ q t.
    let p = In-from_any xs q t in
    any-from_In ys q (let r = h p.place p.within in record { place = r.place; within = r.within; is = r.is ∙ p.is }))

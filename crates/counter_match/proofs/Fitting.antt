-- The plain search finds counters exactly where an assignment exists.
use Rattle.std.specs.{Prelude.{◌≢◌, nat_eq}, List.{list_any}}
use Rattle.std.proofs.Common.{◌≡◌, ℕ, zero, suc, ◌<◌, Bool, true, false, not, ◌&&◌, List, [], ◌∷◌, length, get_or, refl, sym, ap, arith, inl, inr}
use Rattle.std.proofs.lemmas.Bool.{cases_Bool, and_parts, and_from, not-true, not_from_false, cases_eq, or_parts, or_from, ne_eqb, eqb-false}
use Rattle.stage_spec.{specs.Fits.{can_count, fits_below, fits_beside, fits, IsAssignment}, proofs.Fits.{allowed-cons}}

-- a counter that the first event can take so that the others fit
pub record Found (others : List ℕ → Bool) (mask : ℕ) (taken : List ℕ) : Type 0 where
  pub counter : ℕ
  pub allowed : can_count mask counter ≡ true
  pub free : list_any (nat_eq counter) taken ≡ false
  pub fit : others (counter ∷ taken) ≡ true

pub fits_below-finds : (n : ℕ) (others : List ℕ → Bool) (mask : ℕ) (taken : List ℕ) → fits_below n others mask taken ≡ true → Found others mask taken
unfolding fits_below
fits_below-finds zero others mask taken h = absurd (cc)
fits_below-finds (suc c) others mask taken h =
    elim (cases_Bool (can_count mask c && not (list_any (nat_eq c) taken))) [
      | inl e ↦ elim (cases_Bool (others (c ∷ taken))) [
        | inl r ↦ let p = and_parts (can_count mask c) (not (list_any (nat_eq c) taken)) e in record { counter = c; allowed = p.0; free = not-true _ p.1; fit = r }
        | inr r ↦ fits_below-finds c others mask taken (rw (r, fits_below) at (rw (e, fits_below) at h))
      ]
      | inr e ↦ fits_below-finds c others mask taken (rw (e, fits_below) at h)
    ]

pub fits_below-takes : (n : ℕ) (others : List ℕ → Bool) (mask : ℕ) (taken : List ℕ) (f : Found others mask taken) → f.counter < n → fits_below n others mask taken ≡ true
unfolding fits_below
fits_below-takes zero others mask taken f l = absurd (omega arith)
fits_below-takes (suc c) others mask taken f l =
    elim (cases_eq f.counter c) [
      | inl e ↦ grind (arith, not, true, and_from, e, not_from_false)
      | inr e ↦
          let low : f.counter < c = omega arith in
          let ih : fits_below c others mask taken ≡ true = fits_below-takes c others mask taken f low in
          elim (cases_Bool (can_count mask c && not (list_any (nat_eq c) taken))) [
            | inl t ↦ elim (cases_Bool (others (c ∷ taken))) [ inl r ↦ rw (t, fits_below) (rw r refl) | inr r ↦ rw (t, fits_below) (rw r ih) ]
            | inr t ↦ rw (t, fits_below) ih
          ]
    ]

-- counters for the masks in turn, none of them taken
abbrev pub InTurn : List ℕ → List ℕ → List ℕ → Type 0
InTurn [] taken [] = Unit {0}
InTurn [] taken (c ∷ cs) = ⊥
InTurn (m ∷ ms) taken [] = ⊥
InTurn (m ∷ ms) taken (c ∷ cs) = (can_count m c ≡ true) × (list_any (nat_eq c) taken ≡ false) × InTurn ms (c ∷ taken) cs

pub fits_beside-finds : (masks taken : List ℕ) → fits_beside masks taken ≡ true → (counters : List ℕ) × InTurn masks taken counters
unfolding fits_beside
fits_beside-finds [] taken h = ([], tt)
fits_beside-finds (m ∷ ms) taken h =
    let f = fits_below-finds 16 (fits_beside ms) m taken h in
    let rest = fits_beside-finds ms (f.counter ∷ taken) f.fit in
    (f.counter ∷ rest.0, (f.allowed, f.free, rest.1))

pub can_count-below : (mask counter : ℕ) → can_count mask counter ≡ true → counter < 16
can_count-below mask counter h = grind (arith, and_parts)

pub fits_beside-takes : (masks taken counters : List ℕ) → InTurn masks taken counters → fits_beside masks taken ≡ true
unfolding fits_beside
fits_beside-takes [] taken cs h = refl
fits_beside-takes (m ∷ ms) taken [] h = absurd h
fits_beside-takes (m ∷ ms) taken (c ∷ cs) h =
    fits_below-takes 16 (fits_beside ms) m taken (record { counter = c; allowed = h.0; free = h.1; fit = fits_beside-takes ms (c ∷ taken) cs h.2 }) (can_count-below m c h.0)

-- none of the counters is taken
pub record Apart (taken counters : List ℕ) : Type 0 where
  pub free : (i : ℕ) → i < length counters → list_any (nat_eq (get_or counters i 0)) taken ≡ false

pub different-cons : (c : ℕ) (cs : List ℕ) → ((j : ℕ) → j < length cs → c ≢ get_or cs j 0) → ((i j : ℕ) → i < j → j < length cs → get_or cs i 0 ≢ get_or cs j 0)
    → (i j : ℕ) → i < j → j < length (c ∷ cs) → get_or (c ∷ cs) i 0 ≢ get_or (c ∷ cs) j 0
different-cons c cs h t zero zero l m = absurd (omega arith)
different-cons c cs h t zero (suc j) l m = h j (omega arith)
different-cons c cs h t (suc i) zero l m = absurd (omega arith)
different-cons c cs h t (suc i) (suc j) l m = t i j (omega arith) (omega arith)

pub IsAssignment-in_turn : (masks taken counters : List ℕ) → InTurn masks taken counters → IsAssignment masks counters × Apart taken counters
IsAssignment-in_turn [] taken [] h =
    (record { one_each = refl; allowed = λ i l. absurd (omega arith); different = λ i j l m. absurd (omega arith) }, record { free = λ i l. absurd (omega arith) })
IsAssignment-in_turn [] taken (c ∷ cs) h = absurd h
IsAssignment-in_turn (m ∷ ms) taken [] h = absurd h
IsAssignment-in_turn (m ∷ ms) taken (c ∷ cs) h =
    let ih = IsAssignment-in_turn ms (c ∷ taken) cs h.2 in (
      record {
        one_each = ap suc ih.0.one_each;
        allowed = allowed-cons m c ms cs h.0 ih.0.allowed;
        different = different-cons c cs (λ j l e. eqb-false (get_or cs j 0) c (or_parts _ _ (ih.1.free j l)).0 (sym e)) ih.0.different;
      },
      record { free = free-cons taken c cs h.1 (λ i l. (or_parts (nat_eq (get_or cs i 0) c) _ (ih.1.free i l)).1) },
    )
  where
    free-cons : (taken : List ℕ) (c : ℕ) (cs : List ℕ) → list_any (nat_eq c) taken ≡ false → ((i : ℕ) → i < length cs → list_any (nat_eq (get_or cs i 0)) taken ≡ false)
        → (i : ℕ) → i < length (c ∷ cs) → list_any (nat_eq (get_or (c ∷ cs) i 0)) taken ≡ false
    free-cons taken c cs h t zero l = h
    free-cons taken c cs h t (suc i) l = t i (omega arith)

pub in_turn-IsAssignment : (masks taken counters : List ℕ) → IsAssignment masks counters → Apart taken counters → InTurn masks taken counters
in_turn-IsAssignment [] taken [] a p = tt
in_turn-IsAssignment [] taken (c ∷ cs) a p = let e : suc (length cs) ≡ 0 = a.one_each in absurd (omega arith)
in_turn-IsAssignment (m ∷ ms) taken [] a p = let e : 0 ≡ suc (length ms) = a.one_each in absurd (omega arith)
in_turn-IsAssignment (m ∷ ms) taken (c ∷ cs) a p =
    let e : suc (length cs) ≡ suc (length ms) = a.one_each in (
      a.allowed 0 (omega arith),
      p.free 0 (omega arith),
      in_turn-IsAssignment ms (c ∷ taken) cs
          (record {
            one_each = omega arith;
            allowed = λ i l. a.allowed (suc i) (omega arith);
            different = λ i j l n. a.different (suc i) (suc j) (omega arith) (omega arith);
          })
          (record { free = λ i l. or_from _ _ (ne_eqb _ _ (λ q. a.different 0 (suc i) (omega arith) (omega arith) (sym q))) (p.free (suc i) (omega arith)) }),
    )

-- what fits has an assignment, and what has one fits
pub assignment_of : (masks : List ℕ) → fits masks ≡ true → (counters : List ℕ) × IsAssignment masks counters
unfolding fits
assignment_of masks h = let f = fits_beside-finds masks [] h in (f.0, (IsAssignment-in_turn masks [] f.0 f.1).0)

pub fits-IsAssignment : (masks counters : List ℕ) → IsAssignment masks counters → fits masks ≡ true
unfolding fits
fits-IsAssignment masks counters a = fits_beside-takes masks [] counters (in_turn-IsAssignment masks [] counters a (record { free = λ i l. refl }))

-- A list without one of its events fits where the others can have counters.
use Rattle.std.specs.Prelude.{◌≢◌}
use Rattle.std.proofs.Common.{◌≡◌, ℕ, zero, suc, ◌+◌, ◌<◌, ◌≤◌, true, List, [], ◌∷◌, ◌++◌, length, get_or, take, drop, refl, sym, ap, ◌∙◌, arith, inl, inr, length-append, length-take, length-drop, add-one}
use Rattle.std.proofs.lemmas.{Bool.{cases_order}, List.{length-take-le, take-append-drop, drop_more}}
use Rattle.stage_spec.specs.Fits.{can_count, fits, IsAssignment}
use Rattle.counter_match.{specs.Search.{SeatsAllBut}, proofs.Fitting.{assignment_of, fits-IsAssignment}}

-- the place in a list of what stands at a place of the list without the one at the gap
abbrev pub past : ℕ → ℕ → ℕ
past zero i = suc i
past (suc gap) zero = zero
past (suc gap) (suc i) = suc (past gap i)

pub past-ne : (gap i : ℕ) → past gap i ≢ gap
past-ne zero i e = omega arith
past-ne (suc gap) zero e = omega arith
past-ne (suc gap) (suc i) e = past-ne gap i (omega arith)

pub past-increases : (gap i j : ℕ) → i < j → past gap i < past gap j
past-increases zero i j l = omega arith
past-increases (suc gap) zero zero l = absurd (omega arith)
past-increases (suc gap) zero (suc j) l = omega arith
past-increases (suc gap) (suc i) zero l = absurd (omega arith)
past-increases (suc gap) (suc i) (suc j) l = let h : past gap i < past gap j = past-increases gap i j (omega arith) in omega arith

pub past-below : (gap i n : ℕ) → i < n → past gap i < suc n
past-below zero i n l = omega arith
past-below (suc gap) zero n l = omega arith
past-below (suc gap) (suc i) zero l = absurd (omega arith)
past-below (suc gap) (suc i) (suc n) l = let h : past gap i < suc n = past-below gap i n (omega arith) in omega arith

-- each place but the gap is met
pub record Met (gap n j : ℕ) : Type 0 where
  pub place : ℕ
  pub below : place < n
  pub is : past gap place ≡ j

pub met : (gap n j : ℕ) → gap ≤ n → j < suc n → j ≢ gap → Met gap n j
met zero n zero g l ne = absurd (ne refl)
met zero n (suc j) g l ne = record { place = j; below = omega arith; is = refl }
met (suc gap) zero j g l ne = absurd (omega arith)
met (suc gap) (suc n) zero g l ne = record { place = 0; below = omega arith; is = refl }
met (suc gap) (suc n) (suc j) g l ne =
    let m = met gap n j (omega arith) (omega arith) (λ e. ne (ap suc e)) in record { place = suc m.place; below = omega (arith, m.below); is = ap suc m.is }

pub get_or-past : (bs ms : List ℕ) (m i : ℕ) → get_or (bs ++ ms) i 0 ≡ get_or (bs ++ m ∷ ms) (past (length bs) i) 0
get_or-past [] ms m i = refl
get_or-past (b ∷ bs) ms m zero = refl
get_or-past (b ∷ bs) ms m (suc i) = get_or-past bs ms m i

-- the same where the list is split at a place
pub get_or-past_split : (gap : ℕ) (xs : List ℕ) (i : ℕ) → gap < length xs → get_or (take gap xs ++ drop (suc gap) xs) i 0 ≡ get_or xs (past gap i) 0
get_or-past_split gap xs i l =
    let n : length (take gap xs) ≡ gap = length-take-le gap xs (omega arith) in
    let whole : take gap xs ++ get_or xs gap 0 ∷ drop (suc gap) xs ≡ xs = grind (arith, take, drop_more, get_or, drop, add-one, take-append-drop) in
    get_or-past (take gap xs) (drop (suc gap) xs) (get_or xs gap 0) i ∙ (ap (λ k. get_or (take gap xs ++ get_or xs gap 0 ∷ drop (suc gap) xs) (past k i) 0) n ∙ ap (λ ys. get_or ys (past gap i) 0) whole)

length-around : (before after : List ℕ) (mask : ℕ) → length (before ++ mask ∷ after) ≡ length before + suc (length after)
length-around before after mask = length-append before (mask ∷ after)

pub fits_without : (before after : List ℕ) (mask : ℕ) (seats : List ℕ) → SeatsAllBut (length before) (before ++ mask ∷ after) seats → fits (before ++ after) ≡ true
fits_without before after mask seats s =
    fits-IsAssignment (before ++ after) (take g seats ++ drop (suc g) seats) (record {
      one_each = omega (arith, length-append (take g seats) (drop (suc g) seats), length-take g seats, length-drop (suc g) seats, length-append before after, length-around before after mask, s.one_each);
      allowed = λ i l.
          let lp : past g i < length (before ++ mask ∷ after) = omega (arith, past-below g i (length (before ++ after)) l, length-append before after, length-around before after mask) in
          allowed_at i lp;
      different = λ i j l m e.
          let lj : j < length (before ++ after) = omega (arith, m, length-append (take g seats) (drop (suc g) seats), length-take g seats, length-drop (suc g) seats, length-append before after, length-around before after mask, s.one_each) in
          let lp : past g j < length seats = omega (arith, past-below g j (length (before ++ after)) lj, length-append before after, length-around before after mask, s.one_each) in
          s.different (past g i) (past g j) (past-increases g i j l) lp (past-ne g i) (past-ne g j) (sym (at i) ∙ (e ∙ at j));
    })
  where
    g : ℕ
    g = length before

    at : (i : ℕ) → get_or (take g seats ++ drop (suc g) seats) i 0 ≡ get_or seats (past g i) 0
    at i = get_or-past_split g seats i (omega (arith, length-around before after mask, s.one_each))

    allowed_at : (i : ℕ) → past g i < length (before ++ mask ∷ after) → can_count (get_or (before ++ after) i 0) (get_or (take g seats ++ drop (suc g) seats) i 0) ≡ true
    allowed_at i l =
        ap (λ k. can_count k (get_or (take g seats ++ drop (suc g) seats) i 0)) (get_or-past before after mask i)
        ∙ (ap (can_count (get_or (before ++ mask ∷ after) (past g i) 0)) (at i) ∙ s.allowed (past g i) l (past-ne g i))

pub seats_without : (before after : List ℕ) (mask : ℕ) → fits (before ++ after) ≡ true → (seats : List ℕ) × SeatsAllBut (length before) (before ++ mask ∷ after) seats
seats_without before after mask h = (
  take g cs ++ 0 ∷ drop g cs,
  record {
    one_each = omega (arith, length-append (take g cs) (0 ∷ drop g cs), length-take g cs, length-drop g cs, a.one_each, length-append before after, length-around before after mask);
    allowed = λ j l ne.
        let m = met g (length (before ++ after)) j (omega (arith, length-append before after)) (omega (arith, l, length-append before after, length-around before after mask)) ne in
        allowed_at m.place j m.below m.is;
    different = λ i j l lj ni nj e.
        let same : length (take g cs ++ 0 ∷ drop g cs) ≡ suc (length (before ++ after)) = omega (arith, length-append (take g cs) (0 ∷ drop g cs), length-take g cs, length-drop g cs, a.one_each, length-append before after) in
        let mi = met g (length (before ++ after)) i (omega (arith, length-append before after)) (omega (arith, lj, l, same)) ni in
        let mj = met g (length (before ++ after)) j (omega (arith, length-append before after)) (omega (arith, lj, same)) nj in
        apart mi.place mj.place i j mi.is mj.is l (omega (arith, mj.below, a.one_each)) e;
  },
)
  where
    g : ℕ
    g = length before

    cs : List ℕ
    cs = (assignment_of (before ++ after) h).0

    a : IsAssignment (before ++ after) cs
    a = (assignment_of (before ++ after) h).1

    short : g ≤ length cs
    short = omega (arith, a.one_each, length-append before after)

    at : (i : ℕ) → get_or cs i 0 ≡ get_or (take g cs ++ 0 ∷ drop g cs) (past g i) 0
    at i = ap (λ ys. get_or ys i 0) (sym (take-append-drop g cs)) ∙ (get_or-past (take g cs) (drop g cs) 0 i ∙ ap (λ k. get_or (take g cs ++ 0 ∷ drop g cs) (past k i) 0) (length-take-le g cs short))

    allowed_at : (i j : ℕ) → i < length (before ++ after) → past g i ≡ j → can_count (get_or (before ++ mask ∷ after) j 0) (get_or (take g cs ++ 0 ∷ drop g cs) j 0) ≡ true
    allowed_at i j l e =
        ap (λ k. can_count (get_or (before ++ mask ∷ after) k 0) (get_or (take g cs ++ 0 ∷ drop g cs) k 0)) (sym e)
        ∙ (ap (λ k. can_count k (get_or (take g cs ++ 0 ∷ drop g cs) (past g i) 0)) (sym (get_or-past before after mask i))
        ∙ (ap (can_count (get_or (before ++ after) i 0)) (sym (at i)) ∙ a.allowed i l))

    smaller : (i j : ℕ) → past g i < past g j → i < j
    smaller i j l = elim (cases_order i j) [ inl e ↦ let same : past g i ≡ past g j = ap (past g) e in absurd (omega arith) | inr o ↦ elim o [ inl lt ↦ lt | inr gt ↦ let back : past g j < past g i = past-increases g j i gt in absurd (omega arith) ] ]

    apart : (i' j' i j : ℕ) → past g i' ≡ i → past g j' ≡ j → i < j → j' < length cs → get_or (take g cs ++ 0 ∷ drop g cs) i 0 ≢ get_or (take g cs ++ 0 ∷ drop g cs) j 0
    apart i' j' i j ei ej l lj e =
        a.different i' j' (smaller i' j' (omega arith)) lj
        (at i' ∙ (ap (λ k. get_or (take g cs ++ 0 ∷ drop g cs) k 0) ei ∙ (e ∙ (ap (λ k. get_or (take g cs ++ 0 ∷ drop g cs) k 0) (sym ej) ∙ sym (at j')))))

-- A search as its queue grows.
use Rattle.std.specs.{Prelude.{◌≢◌, nat_eq}, List.{list_any}}
use Rattle.std.proofs.Common.{◌≡◌, ℕ, zero, suc, ◌+◌, ◌<◌, ◌≤◌, true, false, List, [], ◌∷◌, ◌++◌, length, get_or, refl, sym, ap, ◌∙◌, arith, inl, inr}
use Rattle.std.proofs.lemmas.{Bool.{cases_eq, both_ways}, List.{get_or_append_left, get_or_push, length_push}}
use Rattle.stage_spec.specs.Fits.{can_count}
use Rattle.counter_match.specs.Search.{IsSearch, IsHeld, IsClosedBelow, IsClosedAt, IsExtended}
use Rattle.counter_match.proofs.Lists.{In, In-from_any, any-from_In, AreDifferent, length-le_from_In}

pub IsExtended-same : (xs : List ℕ) → IsExtended xs xs
IsExtended-same xs = record { longer = omega arith; same = λ q l. refl }

pub push-left : (xs : List ℕ) (x i : ℕ) → i < length xs → get_or (xs ++ x ∷ []) i 0 ≡ get_or xs i 0
push-left xs x i l = get_or_append_left xs (x ∷ []) 0 i l

pub IsExtended-push : (xs : List ℕ) (x : ℕ) → IsExtended xs (xs ++ x ∷ [])
IsExtended-push xs x = record { longer = omega (arith, length_push xs x); same = push-left xs x }

pub IsExtended-trans : (xs ys zs : List ℕ) → IsExtended xs ys → IsExtended ys zs → IsExtended xs zs
IsExtended-trans xs ys zs a b = record { longer = omega (arith, a.longer, b.longer); same = λ q l. b.same q (omega (arith, a.longer)) ∙ a.same q l }

pub IsHeld-extended : (counters old new : List ℕ) (counter : ℕ) → IsExtended old new → IsHeld counters old counter → IsHeld counters new counter
IsHeld-extended counters old new counter e h = grind (arith, get_or)

pub IsClosedBelow-extended : (n : ℕ) (masks counters old new : List ℕ) → n ≤ length old → IsExtended old new → IsClosedBelow n masks counters old → IsClosedBelow n masks counters new
IsClosedBelow-extended n masks counters old new l e c = grind (arith, IsHeld-extended, get_or)

pub IsClosedAt-extended : (at n : ℕ) (masks counters old new : List ℕ) → at < length old → IsExtended old new → IsClosedAt at n masks counters old → IsClosedAt at n masks counters new
IsClosedAt-extended at n masks counters old new l e c = grind (arith, IsHeld-extended, get_or)

pub IsClosedAt-more : (at n : ℕ) (masks counters queue : List ℕ) → IsClosedAt at n masks counters queue
    → (can_count (get_or masks (get_or queue at 0) 0) n ≡ true → IsHeld counters queue n) → IsClosedAt at (n + 1) masks counters queue
IsClosedAt-more at n masks counters queue c h =
    record {
      held = λ counter l can. elim (cases_eq counter n) [
        | inl e ↦ subst_held counter n e (h (ap (can_count (get_or masks (get_or queue at 0) 0)) (sym e) ∙ can))
        | inr ne ↦ c.held counter (omega arith) can
      ];
    }
  where
    subst_held : (a b : ℕ) → a ≡ b → IsHeld counters queue b → IsHeld counters queue a
    subst_held a b e k = record { position = k.position; later = k.later; reached = k.reached; is = k.is ∙ sym e }

pub IsClosedBelow-more : (n : ℕ) (masks counters queue : List ℕ) → IsClosedBelow n masks counters queue → IsClosedAt n 16 masks counters queue
    → ((mask counter : ℕ) → can_count mask counter ≡ true → counter < 16) → IsClosedBelow (n + 1) masks counters queue
IsClosedBelow-more n masks counters queue c d low = grind (arith, get_or, true)

-- one more event is reached
pub IsSearch-push : (masks counters queue parents : List ℕ) (at place : ℕ) → IsSearch masks counters queue parents → at < length queue → place < length masks
    → list_any (nat_eq place) queue ≡ false → can_count (get_or masks (get_or queue at 0) 0) (get_or counters place 0) ≡ true
    → IsSearch masks counters (queue ++ place ∷ []) (parents ++ at ∷ [])
IsSearch-push masks counters queue parents at place s la lp new can =
    record {
      some = omega (arith, length_push queue place);
      first = ap (λ k. k + 1) (push-left queue place 0 s.some) ∙ s.first;
      parent_each = length_push parents at ∙ (ap (λ k. k + 1) s.parent_each ∙ sym (length_push queue place));
      inside = λ q l. elim (cases_eq q (length queue)) [
        | inl e ↦ rw (last q e) lp
        | inr ne ↦ let lq : q < length queue = omega (arith, l, length_push queue place) in rw (push-left queue place q lq) (s.inside q lq)
      ];
      different = λ p q l lq e. elim (cases_eq q (length queue)) [
        | inl f ↦ let lp : p < length queue = omega arith in
            both_ways _ new (any-from_In queue place (record { place = p; within = lp; is = sym (push-left queue place p lp) ∙ (e ∙ last q f) }))
        | inr ne ↦ let lq' : q < length queue = omega (arith, lq, length_push queue place) in
            s.different p q l lq' (sym (push-left queue place p (omega arith)) ∙ (e ∙ push-left queue place q lq'))
      ];
      earlier = λ q lo l. elim (cases_eq q (length queue)) [
        | inl e ↦ rw (last_parent q e) (omega arith)
        | inr ne ↦ let lq : q < length queue = omega (arith, l, length_push queue place) in rw (left_parent q lq) (s.earlier q lo lq)
      ];
      wanted = λ q lo l. elim (cases_eq q (length queue)) [
        | inl e ↦ rw (last_parent q e, last q e, push-left queue place at la) can
        | inr ne ↦ let lq : q < length queue = omega (arith, l, length_push queue place) in
            let earlier : get_or parents q 0 < length queue = omega (arith, s.earlier q lo lq) in
            rw (left_parent q lq, push-left queue place q lq, push-left queue place (get_or parents q 0) earlier) (s.wanted q lo lq)
      ];
    }
  where
    last : (q : ℕ) → q ≡ length queue → get_or (queue ++ place ∷ []) q 0 ≡ place
    last q e = get_or_push queue place 0 q (sym e)

    left_parent : (q : ℕ) → q < length queue → get_or (parents ++ at ∷ []) q 0 ≡ get_or parents q 0
    left_parent q l = push-left parents at q (omega (arith, s.parent_each))

    last_parent : (q : ℕ) → q ≡ length queue → get_or (parents ++ at ∷ []) q 0 ≡ at
    last_parent q e = get_or_push parents at 0 q (s.parent_each ∙ sym e)

-- a search begins with the last event
pub IsSearch-start : (masks counters : List ℕ) (last : ℕ) → last + 1 ≡ length masks → IsSearch masks counters (last ∷ []) (0 ∷ [])
IsSearch-start masks counters last e =
    record {
      some = omega arith;
      first = e;
      parent_each = refl;
      inside = λ q l. first_inside q (omega arith);
      different = λ p q l m. absurd (omega arith);
      earlier = λ q lo l. absurd (omega arith);
      wanted = λ q lo l. absurd (omega arith);
    }
  where
    first_inside : (q : ℕ) → q ≡ 0 → get_or (last ∷ []) q 0 < length masks
    first_inside q z = rw z (omega arith)

-- a reached event that is not the last holds its counter
pub IsHeld-reached : (masks counters queue parents : List ℕ) (place : ℕ) → IsSearch masks counters queue parents → place + 1 ≢ length masks → list_any (nat_eq place) queue ≡ true
    → IsHeld counters queue (get_or counters place 0)
IsHeld-reached masks counters queue parents place s ne h =
    let i = In-from_any queue place h in
    record {
      position = i.place;
      later = above i.place i.is;
      reached = i.within;
      is = ap (λ k. get_or counters k 0) i.is;
    }
  where
    above : (p : ℕ) → get_or queue p 0 ≡ place → 0 < p
    above zero e = absurd (ne (ap (λ k. k + 1) (sym e) ∙ s.first))
    above (suc p) e = omega arith

-- the numbers below another
abbrev places_below : ℕ → List ℕ
places_below zero = []
places_below (suc n) = n ∷ places_below n

length-places_below : (n : ℕ) → length (places_below n) ≡ n
length-places_below zero = refl
length-places_below (suc n) = ap suc (length-places_below n)

in_places_below : (n x : ℕ) → x < n → In (places_below n) x
in_places_below zero x l = absurd (omega arith)
in_places_below (suc n) x l =
    elim (cases_eq x n) [
      | inl e ↦ record { place = 0; within = omega arith; is = sym e }
      | inr ne ↦ let i = in_places_below n x (omega arith) in record { place = suc i.place; within = omega (arith, i.within); is = i.is }
    ]

-- different numbers below another are no more than that
pub length-le_below : (xs : List ℕ) (n : ℕ) → AreDifferent xs → ((i : ℕ) → i < length xs → get_or xs i 0 < n) → length xs ≤ n
length-le_below xs n d h =
    let l : length xs ≤ length (places_below n) = length-le_from_In xs (places_below n) d (λ i l. in_places_below n (get_or xs i 0) (h i l)) in
    omega (arith, length-places_below n)

-- no more events are reached than there are
pub length-search : (masks counters queue parents : List ℕ) → IsSearch masks counters queue parents → length queue ≤ length masks
length-search masks counters queue parents s = length-le_below queue (length masks) (record { different = s.different }) s.inside

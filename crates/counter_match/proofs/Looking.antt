-- A search when one more counter is looked at.
use Rattle.std.specs.{Prelude.{◌≢◌, ◌^◌, ◌==◌, nat_lt, nat_eq, All, if◌then◌else◌}, List.{list_any}, Int.{bit_at}}
use Rattle.std.proofs.Common.{◌≡◌, ℕ, ◌+◌, ◌<◌, ◌≤◌, true, false, List, [], ◌∷◌, ◌++◌, length, get_or, refl, sym, ap, ◌∙◌, arith, inl, inr, subst}
use Rattle.std.proofs.lemmas.{Bool.{cases_Bool, cases_eq, cases_lt, both_ways, and_parts, eqb-true}, Nat.Bits.{bit_at_above}}
use Rattle.std.proofs.lemmas.List.{get_or_push, length_push}
use Rattle.stage_spec.specs.Fits.{can_count}
use Rattle.counter_match.{specs.Search.{IsSearch, IsHeld, IsExtended, IsClosedAt, CanTake}, proofs.Lists.{any-from_In}}
use Rattle.counter_match.proofs.Growth.{IsExtended-same, IsExtended-push, IsHeld-reached, IsSearch-push, length-le_below, push-left}
use Rattle.perf_base.specs.Masks.{IsMask}

-- after an event that has the counter is reached
pub record IsLooked (masks counters queue wide parents : List ℕ) (counter : ℕ) : Type 0 where
  pub search : IsSearch masks counters wide parents
  pub extended : IsExtended queue wide
  pub held : IsHeld counters wide counter

pub IsLooked-reach : (masks counters queue parents wide wide_parents : List ℕ) (position place counter : ℕ) → IsSearch masks counters queue parents → position < length queue → place + 1 < length masks
    → get_or counters place 0 ≡ counter → CanTake masks queue position counter
    → wide ≡ (if list_any (nat_eq place) queue then queue else queue ++ place ∷ []) → wide_parents ≡ (if list_any (nat_eq place) queue then parents else parents ++ position ∷ [])
    → IsLooked masks counters queue wide wide_parents counter
IsLooked-reach masks counters queue parents wide wide_parents position place counter s lp lm e can w v =
    let P : List ℕ → List ℕ → Type 0 = λ xs ys. IsLooked masks counters queue xs ys counter in
    let Q : List ℕ → Type 0 = λ ys. P wide ys in
    let R : List ℕ → Type 0 = λ xs. P xs (if list_any (nat_eq place) queue then parents else parents ++ position ∷ []) in
    subst Q (sym v) (subst R (sym w) (elim (cases_Bool (list_any (nat_eq place) queue)) [
      | inl t ↦ rw t (record { search = s; extended = IsExtended-same queue; held = subst (IsHeld counters queue) e (IsHeld-reached masks counters queue parents place s ne t) })
      | inr f ↦
          let t : IsSearch masks counters (queue ++ place ∷ []) (parents ++ position ∷ []) =
          IsSearch-push masks counters queue parents position place s lp (omega arith) f (ap (can_count (get_or masks (get_or queue position 0) 0)) e ∙ can) in
          rw f (record {
            search = t;
            extended = IsExtended-push queue place;
            held = subst (IsHeld counters (queue ++ place ∷ [])) e (IsHeld-reached masks counters _ _ place t ne (any-from_In _ place (record { place = length queue; within = omega (arith, length_push queue place); is = get_or_push queue place 0 (length queue) refl })));
          })
    ]))
  where
    ne : place + 1 ≢ length masks
    ne q = omega arith

-- there is room for an event that is not reached
pub length-search_new : (masks counters queue parents : List ℕ) (place : ℕ) → IsSearch masks counters queue parents → place < length masks → list_any (nat_eq place) queue ≡ false → length queue < length masks
length-search_new masks counters queue parents place s lp new =
    let l : length (queue ++ place ∷ []) ≤ length masks = length-le_below (queue ++ place ∷ []) (length masks)
    (record {
      different = λ i j l m e. elim (cases_eq j (length queue)) [
        | inl f ↦ let li : i < length queue = omega arith in
            both_ways _ new (any-from_In queue place (record { place = i; within = li; is = sym (push-left queue place i li) ∙ (e ∙ get_or_push queue place 0 j (sym f)) }))
        | inr ne ↦ let lj : j < length queue = omega (arith, m, length_push queue place) in
            s.different i j l lj (sym (push-left queue place i (omega arith)) ∙ (e ∙ push-left queue place j lj))
      ];
    })
    (λ i l. elim (cases_eq i (length queue)) [
      | inl f ↦ rw (get_or_push queue place 0 i (sym f)) lp
      | inr ne ↦ let li : i < length queue = omega (arith, l, length_push queue place) in rw (push-left queue place i li) (s.inside i li)
    ]) in
    omega (arith, l, length_push queue place)

-- all counters of an event are looked at once those of the processor are
pub IsClosedAt-all : (at n : ℕ) (masks counters queue parents : List ℕ) → IsSearch masks counters queue parents → at < length queue → All (IsMask n) masks
    → IsClosedAt at n masks counters queue → IsClosedAt at 16 masks counters queue
IsClosedAt-all at n masks counters queue parents s l b c =
    record {
      held = λ counter low can. elim (cases_lt counter n) [
        | inl lt ↦ c.held counter lt can
        | inr ge ↦ absurd (beyond (get_or masks (get_or queue at 0) 0) n counter (b (get_or queue at 0) 0 (s.inside at l)).1 ge can)
      ];
    }
  where
    beyond : (mask n counter : ℕ) → mask < 2 ^ n → n ≤ counter → can_count mask counter ≡ true → ⊥
    beyond mask n counter l ge can =
        let z : bit_at mask counter ≡ 0 = bit_at_above mask n counter l ge in
        let o : bit_at mask counter ≡ 1 = eqb-true (bit_at mask counter) 1 (and_parts (nat_lt counter 16) (bit_at mask counter == 1) can).1 in
        omega arith

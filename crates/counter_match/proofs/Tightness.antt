-- The tight set is what a search without a free counter reached, in list order.
use Rattle.std.specs.{Prelude.{nat_eq}, List.{list_any}}
use Rattle.std.proofs.Common.{◌≡◌, ℕ, suc, ◌<◌, Bool, false, List, [], ◌∷◌, ◌++◌, length, get_or, cond, refl, sym, ap, ◌∙◌, arith, inl, inr, append_assoc, subst}
use Rattle.std.proofs.lemmas.{Bool.{cases_Bool, false_from_ne_true, both_ways}, List.{map-append, length-map, length_push}}
use Rattle.perf_base.specs.declared.numbers.EventNo.{EventNo}
use Rattle.stage_spec.specs.{Fits.{fits}, Tight.{masks_of, tight_after, tight_set}}
use Rattle.counter_match.{specs.Search.{SeatsAllBut, IsSearch, IsClosedBelow, picked}, proofs.Fitting.{assignment_of}}
use Rattle.counter_match.proofs.{Lists.{In-from_any, any-from_In}, Hall.{vacated, unfit_from_closed}, Without.{fits_without, seats_without}}

pub tight_after-picked : (p : ℕ → Bool) (before rest : List (EventNo × ℕ))
    → ((front : List (EventNo × ℕ)) (event : EventNo × ℕ) (back : List (EventNo × ℕ)) → front ++ event ∷ back ≡ before ++ rest → fits (masks_of (front ++ back)) ≡ p (length front))
    → tight_after before rest ≡ picked p (length before) rest
unfolding tight_after
tight_after-picked p before [] h = refl
tight_after-picked p before (e ∷ rest) h =
    let here : fits (masks_of (before ++ rest)) ≡ p (length before) = h before e rest refl in
    let n : length (before ++ e ∷ []) ≡ suc (length before) = omega (arith, length_push before e) in
    let ih : tight_after (before ++ e ∷ []) rest ≡ picked p (length (before ++ e ∷ [])) rest =
    tight_after-picked p (before ++ e ∷ []) rest (λ front x back q. h front x back (q ∙ append_assoc before (e ∷ []) rest)) in
    grind (arith, cond, here, length, ih, n)

-- whether a list fits without one of its events
pub fits_without_reached : (front : List (EventNo × ℕ)) (event : EventNo × ℕ) (back : List (EventNo × ℕ)) (counters queue parents : List ℕ)
    → SeatsAllBut (get_or queue 0 0) (masks_of (front ++ event ∷ back)) counters → IsSearch (masks_of (front ++ event ∷ back)) counters queue parents
    → IsClosedBelow (length queue) (masks_of (front ++ event ∷ back)) counters queue → fits (masks_of (front ++ back)) ≡ list_any (nat_eq (length front)) queue
fits_without_reached front event back counters queue parents a s c =
    elim (cases_Bool (list_any (nat_eq (length front)) queue)) [
      | inl t ↦
          let i = In-from_any queue (length front) t in
          let v = vacated _ counters queue parents a s (suc i.place) i.place (omega arith) i.within in
          ap fits (map-append (λ (e : EventNo × ℕ). e.1) front back)
          ∙ (fits_without (masks_of front) (masks_of back) event.1 v.seats (seats_at v.seats (get_or queue i.place 0) (i.is ∙ sym (length-map front (λ e. e.1))) v.all_but) ∙ sym t)
      | inr f ↦
          false_from_ne_true _ (λ h.
          let w = seats_without (masks_of front) (masks_of back) event.1 (ap fits (sym (map-append (λ (e : EventNo × ℕ). e.1) front back)) ∙ h) in
          unfit_from_closed (length (masks_of front)) (masks_of (front ++ event ∷ back)) counters queue parents w.0 s c
          (λ q l e. both_ways _ f (any-from_In queue (length front) (record { place = q; within = l; is = e ∙ length-map front (λ e. e.1) })))
          (let P : List ℕ → Type 0 = λ ms. SeatsAllBut (length (masks_of front)) ms w.0 in subst P (sym (map-append (λ (e : EventNo × ℕ). e.1) front (event ∷ back))) w.1))
          ∙ sym f
    ]
  where
    seats_at : (seats : List ℕ) (gap : ℕ) → gap ≡ length (masks_of front) → SeatsAllBut gap (masks_of (front ++ event ∷ back)) seats → SeatsAllBut (length (masks_of front)) (masks_of front ++ event.1 ∷ masks_of back) seats
    seats_at seats gap e b =
        let P : ℕ → Type 0 = λ g. SeatsAllBut g (masks_of front ++ event.1 ∷ masks_of back) seats in
        let Q : List ℕ → Type 0 = λ ms. SeatsAllBut gap ms seats in
        subst P e (subst Q (map-append (λ (e : EventNo × ℕ). e.1) front (event ∷ back)) b)

pub tight_set-picked : (events : List (EventNo × ℕ)) (counters queue parents : List ℕ) → SeatsAllBut (get_or queue 0 0) (masks_of events) counters → IsSearch (masks_of events) counters queue parents
    → IsClosedBelow (length queue) (masks_of events) counters queue → tight_set events ≡ picked (λ i. list_any (nat_eq i) queue) 0 events
unfolding tight_set
tight_set-picked events counters queue parents a s c =
    tight_after-picked (λ i. list_any (nat_eq i) queue) [] events (λ front event back e.
    let A : List (EventNo × ℕ) → Type 0 = λ es. SeatsAllBut (get_or queue 0 0) (masks_of es) counters in
    let S : List (EventNo × ℕ) → Type 0 = λ es. IsSearch (masks_of es) counters queue parents in
    let C : List (EventNo × ℕ) → Type 0 = λ es. IsClosedBelow (length queue) (masks_of es) counters queue in
    fits_without_reached front event back counters queue parents (subst A (sym e) a) (subst S (sym e) s) (subst C (sym e) c))

-- a list with a closed search does not fit
pub unfit : (masks counters queue parents : List ℕ) → IsSearch masks counters queue parents → IsClosedBelow (length queue) masks counters queue → fits masks ≡ false
unfit masks counters queue parents s c =
    false_from_ne_true _ (λ h.
    let a = assignment_of masks h in
    unfit_from_closed (length masks) masks counters queue parents a.0 s c (λ q l e. let i : get_or queue q 0 < length masks = s.inside q l in omega arith)
    (record { one_each = a.1.one_each; allowed = λ i l n. a.1.allowed i l; different = λ i j l m n o. a.1.different i j l m }))

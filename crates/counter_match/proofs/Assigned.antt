-- What an assignment says of its list and of the list's beginnings.
use Rattle.std.proofs.Common.{◌≡◌, ℕ, ◌+◌, ◌<◌, ◌≤◌, true, false, List, [], ◌∷◌, ◌++◌, length, get_or, take, sym, ap, ◌∙◌, arith, length-append, length-take, append-nil, append_assoc}
use Rattle.std.proofs.lemmas.List.{get_or_append_left, get_or-take, length-take-le, map-append}
use Rattle.perf_base.specs.declared.numbers.EventNo.{EventNo}
use Rattle.stage_spec.specs.{Fits.{can_count, fits, IsAssignment}, Tight.{masks_of, unfit_after, shortest_unfit}}
use Rattle.counter_match.proofs.{Fitting.{assignment_of, fits-IsAssignment, can_count-below}, Growth.{length-le_below}}

-- no more events than counters
pub length-assigned : (masks counters : List ℕ) → IsAssignment masks counters → length masks ≤ 16
length-assigned masks counters a = grind (arith, length, length-le_below, can_count-below, get_or)

-- what fits, fits without its last events
pub fits-front : (front back : List ℕ) → fits (front ++ back) ≡ true → fits front ≡ true
fits-front front back h =
    let a = assignment_of (front ++ back) h in
    let n : length (front ++ back) ≡ length front + length back = length-append front back in
    let k : length front ≤ length a.0 = omega (arith, a.1.one_each) in
    fits-IsAssignment front (take (length front) a.0) (record {
      one_each = length-take-le (length front) a.0 k;
      allowed = λ i l.
          ap (can_count (get_or front i 0)) (get_or-take (length front) a.0 i 0 l)
          ∙ (ap (λ m. can_count m (get_or a.0 i 0)) (sym (get_or_append_left front back 0 i l)) ∙ a.1.allowed i (omega arith));
      different = λ i j l m e.
          let lj : j < length front = omega (arith, m, length-take (length front) a.0) in
          let li : i < length front = omega arith in
          a.1.different i j l (omega arith) (sym (get_or-take (length front) a.0 i 0 li) ∙ (e ∙ get_or-take (length front) a.0 j 0 lj));
    })

pub fits-front_events : (front back : List (EventNo × ℕ)) → fits (masks_of (front ++ back)) ≡ true → fits (masks_of front) ≡ true
fits-front_events front back h = fits-front (masks_of front) (masks_of back) (ap fits (sym (map-append (λ (e : EventNo × ℕ). e.1) front back)) ∙ h)

-- the shortest beginning that does not fit: the one that does not, though it does without its last event
pub unfit_after-first : (before front : List (EventNo × ℕ)) (last : EventNo × ℕ) (back : List (EventNo × ℕ)) → fits (masks_of (before ++ front)) ≡ true → fits (masks_of ((before ++ front) ++ last ∷ [])) ≡ false
    → unfit_after before (front ++ last ∷ back) ≡ (before ++ front) ++ last ∷ []
unfolding unfit_after
unfit_after-first before [] last back fit un = grind (arith, append-nil, false)
unfit_after-first before (x ∷ front) last back fit un =
    let e : (before ++ x ∷ []) ++ front ≡ before ++ x ∷ front = append_assoc before (x ∷ []) front in
    let f : fits (masks_of (before ++ x ∷ [])) ≡ true = fits-front_events (before ++ x ∷ []) front (ap (λ es. fits (masks_of es)) e ∙ fit) in
    rw (f, unfit_after) (unfit_after-first (before ++ x ∷ []) front last back (ap (λ es. fits (masks_of es)) e ∙ fit) (ap (λ es. fits (masks_of (es ++ last ∷ []))) e ∙ un) ∙ ap (λ es. es ++ last ∷ []) e)

pub shortest_unfit-first : (front : List (EventNo × ℕ)) (last : EventNo × ℕ) (back : List (EventNo × ℕ)) → fits (masks_of front) ≡ true → fits (masks_of (front ++ last ∷ [])) ≡ false
    → shortest_unfit (front ++ last ∷ back) ≡ front ++ last ∷ []
unfolding shortest_unfit
shortest_unfit-first front last back fit un = unfit_after-first [] front last back fit un

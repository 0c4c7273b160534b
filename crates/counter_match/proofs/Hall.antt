-- A search that finds no free counter shows which events are to blame.
use Rattle.std.specs.Prelude.{◌≢◌}
use Rattle.std.proofs.Common.{◌≡◌, ℕ, zero, suc, ◌<◌, ◌≤◌, true, List, length, get_or, set, map, drop, refl, sym, ap, ◌∙◌, arith, inl, inr, length-set, get_or-set_same, get_or-set_other, length-drop}
use Rattle.std.proofs.lemmas.{Bool.{cases_eq, cases_order}, List.{get_or-map, length-map, get_or-drop}}
use Rattle.stage_spec.specs.Fits.{can_count, IsAssignment}
use Rattle.counter_match.{specs.Search.{SeatsAllBut, IsSearch, IsClosedBelow}, proofs.Lists.{In, AreDifferent, length-le_from_In}}

-- different numbers at places of one kind stay different where a place gets a number that no other of them has
pub different_set : (xs : List ℕ) (place x : ℕ) (Of : ℕ → Type 0) → place < length xs
    → ((i : ℕ) → i < length xs → i ≢ place → Of i → get_or xs i 0 ≢ x)
    → ((i j : ℕ) → i < j → j < length xs → i ≢ place → j ≢ place → Of i → Of j → get_or xs i 0 ≢ get_or xs j 0)
    → (i j : ℕ) → i < j → j < length (set xs place x) → Of i → Of j → get_or (set xs place x) i 0 ≢ get_or (set xs place x) j 0
different_set xs place x Of at free differ i j l m n o q = grind (arith, length, length-set, get_or-set_other, get_or, set, get_or-set_same)

-- the event without a counter takes that of another one, which then has none
pub SeatsAllBut-move : (gap place : ℕ) (masks counters : List ℕ) → SeatsAllBut gap masks counters → gap < length masks → place < length masks → place ≢ gap
    → can_count (get_or masks gap 0) (get_or counters place 0) ≡ true → SeatsAllBut place masks (set counters gap (get_or counters place 0))
SeatsAllBut-move gap place masks counters s g p ne can =
    record {
      one_each = length-set counters gap _ ∙ s.one_each;
      allowed = λ i l n. elim (cases_eq i gap) [
        | inl e ↦ rw (e, get_or-set_same counters gap (get_or counters place 0) 0 (omega (arith, s.one_each))) can
        | inr e ↦ rw (get_or-set_other counters gap i (get_or counters place 0) 0 e) (s.allowed i l e)
      ];
      different = different_set counters gap (get_or counters place 0) (λ i. i ≢ place) lg free (λ i j l m e f _ _. s.different i j l m e f);
    }
  where
    lg : gap < length counters
    lg = omega (arith, s.one_each)

    free : (i : ℕ) → i < length counters → i ≢ gap → i ≢ place → get_or counters i 0 ≢ get_or counters place 0
    free i l a b q = elim (cases_order i place) [ inl e ↦ b e | inr o ↦ elim o [ inl lt ↦ s.different i place lt (omega (arith, s.one_each)) a ne q | inr gt ↦ s.different place i gt l ne a (sym q) ] ]

-- the event without a counter takes one that no other event has
pub IsAssignment-from_free : (gap counter : ℕ) (masks counters : List ℕ) → SeatsAllBut gap masks counters → gap < length masks
    → can_count (get_or masks gap 0) counter ≡ true → ((i : ℕ) → i < length counters → i ≢ gap → get_or counters i 0 ≢ counter) → IsAssignment masks (set counters gap counter)
IsAssignment-from_free gap counter masks counters s g can free =
    record {
      one_each = length-set counters gap _ ∙ s.one_each;
      allowed = λ i l. elim (cases_eq i gap) [
        | inl e ↦ rw (e, get_or-set_same counters gap counter 0 lg) can
        | inr e ↦ rw (get_or-set_other counters gap i counter 0 e) (s.allowed i l e)
      ];
      different = λ i j l m. different_set counters gap counter (λ _. Unit {0}) lg (λ i l e _. free i l e) (λ i j l m e f _ _. s.different i j l m e f) i j l m tt tt;
    }
  where
    lg : gap < length counters
    lg = omega (arith, s.one_each)

-- counters for all but a reached event, the same as before for the events that are not reached up to it
pub record Vacated (masks counters queue : List ℕ) (q : ℕ) : Type 0 where
  pub seats : List ℕ
  pub all_but : SeatsAllBut (get_or queue q 0) masks seats
  pub same : (i : ℕ) → ((p : ℕ) → p ≤ q → get_or queue p 0 ≢ i) → get_or seats i 0 ≡ get_or counters i 0

pub vacated_next : (masks counters queue parents : List ℕ) (q : ℕ) → IsSearch masks counters queue parents → 0 < q → q < length queue
    → Vacated masks counters queue (get_or parents q 0) → Vacated masks counters queue q
vacated_next masks counters queue parents q s lo hi v =
    record {
      seats = set v.seats (get_or queue p 0) (get_or v.seats (get_or queue q 0) 0);
      all_but = SeatsAllBut-move (get_or queue p 0) (get_or queue q 0) masks v.seats v.all_but (s.inside p (omega arith)) (s.inside q hi)
          (λ e. s.different p q earlier hi (sym e)) (rw kept (s.wanted q lo hi));
      same = λ i n. get_or-set_other v.seats (get_or queue p 0) i _ 0 (λ e. n p (omega arith) (sym e)) ∙ v.same i (λ r l. n r (omega arith));
    }
  where
    p : ℕ
    p = get_or parents q 0

    earlier : get_or parents q 0 < q
    earlier = s.earlier q lo hi

    kept : get_or v.seats (get_or queue q 0) 0 ≡ get_or counters (get_or queue q 0) 0
    kept = v.same (get_or queue q 0) (λ r l e. s.different r q (omega (arith, earlier)) hi e)

-- each reached event can be left without a counter in place of the last one
pub vacated : (masks counters queue parents : List ℕ) → SeatsAllBut (get_or queue 0 0) masks counters → IsSearch masks counters queue parents
    → (n q : ℕ) → q < n → q < length queue → Vacated masks counters queue q
vacated masks counters queue parents a s zero q l h = absurd (omega arith)
vacated masks counters queue parents a s (suc n) zero l h = record { seats = counters; all_but = a; same = λ i f. refl }
vacated masks counters queue parents a s (suc n) (suc q) l h =
    vacated_next masks counters queue parents (suc q) s (omega arith) h
    (let e : get_or parents (suc q) 0 < suc q = s.earlier (suc q) (omega arith) h in
    vacated masks counters queue parents a s n (get_or parents (suc q) 0) (omega arith) (omega arith))

-- Hall: where the search is closed, no event that is not reached can be left out instead: the reached events have one
-- counter fewer than there are
pub unfit_from_closed : (gap : ℕ) (masks counters queue parents seats : List ℕ) → IsSearch masks counters queue parents → IsClosedBelow (length queue) masks counters queue
    → ((q : ℕ) → q < length queue → get_or queue q 0 ≢ gap) → SeatsAllBut gap masks seats → ⊥
unfit_from_closed gap masks counters queue parents seats s c out a =
    let few : length (map (λ i. get_or seats i 0) queue) ≤ length (map (λ i. get_or counters i 0) (drop 1 queue)) = length-le_from_In _ _ apart held in
    omega (arith, few, length-map queue (λ i. get_or seats i 0), length-map (drop 1 queue) (λ i. get_or counters i 0), length-drop 1 queue, s.some)
  where
    at : (q : ℕ) → q < length queue → get_or (map (λ i. get_or seats i 0) queue) q 0 ≡ get_or seats (get_or queue q 0) 0
    at q l = get_or-map (λ i. get_or seats i 0) queue q 0 0 l

    apart_by : (x y : ℕ) → x < length masks → y < length masks → x ≢ gap → y ≢ gap → x ≢ y → get_or seats x 0 ≢ get_or seats y 0
    apart_by x y lx ly nx ny ne e = elim (cases_order x y) [ inl q ↦ ne q | inr o ↦ elim o [ inl lt ↦ a.different x y lt (omega (arith, a.one_each)) nx ny e | inr gt ↦ a.different y x gt (omega (arith, a.one_each)) ny nx (sym e) ] ]

    apart : AreDifferent (map (λ i. get_or seats i 0) queue)
    apart = record {
      different = λ i j l m e.
          let lj : j < length queue = omega (arith, m, length-map queue (λ i. get_or seats i 0)) in
          let li : i < length queue = omega arith in
          apart_by (get_or queue i 0) (get_or queue j 0) (s.inside i li) (s.inside j lj) (out i li) (out j lj) (s.different i j l lj) (sym (at i li) ∙ (e ∙ at j lj));
    }

    held : (i : ℕ) → i < length (map (λ i. get_or seats i 0) queue) → In (map (λ i. get_or counters i 0) (drop 1 queue)) (get_or (map (λ i. get_or seats i 0) queue) i 0)
    held i l =
        let li : i < length queue = omega (arith, l, length-map queue (λ i. get_or seats i 0)) in
        let h = c.held i (get_or seats (get_or queue i 0) 0) li (a.allowed (get_or queue i 0) (s.inside i li) (out i li)) in
        held_at h.position h.later h.reached (h.is ∙ sym (at i li))
      where
        held_at : (r : ℕ) → 0 < r → r < length queue → get_or counters (get_or queue r 0) 0 ≡ get_or (map (λ i. get_or seats i 0) queue) i 0 → In (map (λ i. get_or counters i 0) (drop 1 queue)) (get_or (map (λ i. get_or seats i 0) queue) i 0)
        held_at zero lo hi e = absurd (omega arith)
        held_at (suc r) lo hi e =
            let lr : r < length (drop 1 queue) = omega (arith, length-drop 1 queue) in
            record {
              place = r;
              within = omega (arith, length-map (drop 1 queue) (λ i. get_or counters i 0));
              is = get_or-map (λ i. get_or counters i 0) (drop 1 queue) r 0 0 lr ∙ (ap (λ k. get_or counters k 0) (get_or-drop 1 queue r 0 ∙ ap (λ k. get_or queue k 0) (omega arith)) ∙ e);
            }

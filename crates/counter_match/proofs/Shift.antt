-- A free counter is handed back along the search, from the event that can take it to the last of the list.
use Rattle.std.specs.Prelude.{◌≢◌}
use Rattle.std.proofs.Common.{◌≡◌, ℕ, zero, suc, ◌<◌, true, List, length, get_or, set, sym, ap, ◌∙◌, arith, inl, inr, length-set, get_or-set_same, get_or-set_other}
use Rattle.std.proofs.lemmas.Bool.{cases_eq, cases_order}
use Rattle.stage_spec.specs.Fits.{can_count, fits, IsAssignment}
use Rattle.counter_match.{specs.Search.{SeatsAllBut, IsSearch, IsShift}, proofs.Fitting.{fits-IsAssignment}}
use Rattle.counter_match.proofs.Hall.{different_set, IsAssignment-from_free}

-- an event with a counter takes one that no event has
pub SeatsAllBut-retake : (gap place counter : ℕ) (masks seats : List ℕ) → SeatsAllBut gap masks seats → place < length masks → place ≢ gap
    → can_count (get_or masks place 0) counter ≡ true → ((i : ℕ) → i < length seats → i ≢ gap → get_or seats i 0 ≢ counter) → SeatsAllBut gap masks (set seats place counter)
SeatsAllBut-retake gap place counter masks seats s lp ne can free =
    record {
      one_each = length-set seats place _ ∙ s.one_each;
      allowed = λ i l n. elim (cases_eq i place) [
        | inl e ↦ rw (e, get_or-set_same seats place counter 0 lg) can
        | inr e ↦ rw (get_or-set_other seats place i counter 0 e) (s.allowed i l n)
      ];
      different = different_set seats place counter (λ i. i ≢ gap) lg (λ i l _ n. free i l n) (λ i j l m _ _ n o. s.different i j l m n o);
    }
  where
    lg : place < length seats
    lg = omega (arith, s.one_each)

-- one event further back
pub IsShift-next : (masks counters queue parents seats : List ℕ) (position counter : ℕ) → IsSearch masks counters queue parents → 0 < position
    → IsShift masks counters queue seats position counter
    → IsShift masks counters queue (set seats (get_or queue position 0) counter) (get_or parents position 0) (get_or seats (get_or queue position 0) 0)
IsShift-next masks counters queue parents seats position counter s lo h =
    record {
      reached = omega (arith, earlier, h.reached);
      seated = SeatsAllBut-retake (get_or queue 0 0) place counter masks seats h.seated inside not_first h.wanted h.free;
      free = λ i l n. free_after i (omega (arith, length-set seats place counter)) n;
      wanted = ap (can_count (get_or masks (get_or queue (get_or parents position 0) 0) 0)) (h.same position lo (omega arith)) ∙ s.wanted position lo h.reached;
      same = λ q l m. get_or-set_other seats place (get_or queue q 0) counter 0 (s.different q position (omega (arith, earlier)) h.reached) ∙ h.same q l (omega (arith, earlier));
    }
  where
    place : ℕ
    place = get_or queue position 0

    earlier : get_or parents position 0 < position
    earlier = s.earlier position lo h.reached

    inside : place < length masks
    inside = s.inside position h.reached

    not_first : place ≢ get_or queue 0 0
    not_first e = s.different 0 position lo h.reached (sym e)

    free_after : (i : ℕ) → i < length seats → i ≢ get_or queue 0 0 → get_or (set seats place counter) i 0 ≢ get_or seats place 0
    free_after i l n q =
        let lp : place < length seats = omega (arith, inside, h.seated.one_each) in
        elim (cases_order i place) [
          | inl e ↦ h.free place lp not_first (sym q ∙ (ap (λ k. get_or (set seats place counter) k 0) e ∙ get_or-set_same seats place counter 0 lp))
          | inr o ↦ elim o [
            | inl lt ↦ h.seated.different i place lt lp n not_first (sym (get_or-set_other seats place i counter 0 (omega arith)) ∙ q)
            | inr gt ↦ h.seated.different place i gt l not_first n (sym q ∙ get_or-set_other seats place i counter 0 (omega arith))
          ]
        ]

-- at the first of the queue all events have counters
pub IsAssignment-shift : (masks counters queue parents seats : List ℕ) (counter : ℕ) → IsSearch masks counters queue parents → IsShift masks counters queue seats 0 counter
    → IsAssignment masks (set seats (get_or queue 0 0) counter)
IsAssignment-shift masks counters queue parents seats counter s h =
    IsAssignment-from_free (get_or queue 0 0) counter masks seats h.seated (s.inside 0 s.some) h.wanted h.free

-- so the list fits
pub fits_from_shift : (masks counters queue parents : List ℕ) → IsSearch masks counters queue parents → (n : ℕ) (seats : List ℕ) (position counter : ℕ) → position < n
    → IsShift masks counters queue seats position counter → fits masks ≡ true
fits_from_shift masks counters queue parents s zero seats position counter l h = absurd (omega arith)
fits_from_shift masks counters queue parents s (suc n) seats zero counter l h = fits-IsAssignment masks _ (IsAssignment-shift masks counters queue parents seats counter s h)
fits_from_shift masks counters queue parents s (suc n) seats (suc position) counter l h =
    let earlier : get_or parents (suc position) 0 < suc position = s.earlier (suc position) (omega arith) h.reached in
    fits_from_shift masks counters queue parents s n _ (get_or parents (suc position) 0) _ (omega arith) (IsShift-next masks counters queue parents seats (suc position) counter s (omega arith) h)

-- a free counter of a reached event begins it
pub IsShift-start : (masks counters queue parents : List ℕ) (position counter : ℕ) → IsSearch masks counters queue parents → SeatsAllBut (get_or queue 0 0) masks counters → position < length queue
    → can_count (get_or masks (get_or queue position 0) 0) counter ≡ true → ((i : ℕ) → i < length counters → i ≢ get_or queue 0 0 → get_or counters i 0 ≢ counter)
    → IsShift masks counters queue counters position counter
IsShift-start masks counters queue parents position counter s a l can free = grind arith

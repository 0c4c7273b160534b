-- Parts of rows, each as a list of its own, after one row was written.
use Rattle.std.specs.Prelude.{◌≡◌, ℕ, ◌+◌, ◌<◌, List, [], ◌∷◌, length, map, replicate, Option, None, slice_index, slice_index_or, slice_set}
use Rattle.std.proofs.{Common.{arith, refl, sym, ap, ◌∙◌}, lemmas.List.{map-set, get_or-map, get_or-set_same, length-map, length-set}}
use Rattle.std.proofs.{lemmas.List.Sums.{sum_by-set}, Math.Seq.{map-set_same}}
use Rattle.perf_base.specs.declared.{numbers.TaskNo.{TaskNo}, reply.Sums.{Sums}}
use Rattle.stage_spec.specs.{Shares.{no_sums}, Hardware.{Hardware}}
use Rattle.counter_match.specs.Seating.{Seated, empty_seating}
use Rattle.world_spec.specs.{Kept.{copies_in}, Value.{Family, no_family}}
use Rattle.world_tables.specs.Places.{Slot, Slots, slots, with_family, Place, Places, places, no_seats}

module _ {A B : Type 0} (f : A → B) (xs : List A) (i : ℕ) where
  pub part-put : (v : A) (ys : List B) → map f xs ≡ ys → map f (slice_set xs i v) ≡ slice_set ys i (f v)
  part-put v ys e = map-set f xs i v ∙ ap (λ (y : List B). slice_set y i (f v)) e

  part-same : (v r : A) (ys : List B) → map f xs ≡ ys → r ≡ slice_index_or xs i r → f v ≡ f r → map f (slice_set xs i v) ≡ ys
  part-same v r ys e at same = map-set_same f xs i v r (same ∙ ap f at) ∙ e

  pub part-at : (r : A) (ys : List B) (d : B) → map f xs ≡ ys → r ≡ slice_index_or xs i r → i < length xs → slice_index_or ys i d ≡ f r
  part-at r ys d e at low = ap (λ (y : List B). slice_index_or y i d) (sym e) ∙ (get_or-map f xs i r d low ∙ ap f (sym at))

  pub part-now : (v : A) (d : B) → i < length xs → slice_index_or (map f (slice_set xs i v)) i d ≡ f v
  part-now v d low = get_or-map f (slice_set xs i v) i v d (omega (arith, low, length-set xs i v)) ∙ ap f (get_or-set_same xs i v v low)

-- the lists are as long as the rows
pub places-low : (rows : List Place) (t : Places) (i : ℕ) → places rows ≡ t → i < length t.running → i < length rows
places-low rows t i view low = omega (arith, low, ap (λ p. length p.running) view, length-map rows (λ p. p.running))

pub slots-low : (rows : List Slot) (t : Slots) (i : ℕ) → slots rows ≡ t → i < length t.families → i < length rows
slots-low rows t i view low = omega (arith, low, ap (λ p. length p.families) view, length-map rows (λ p. p.family))

module _ (rows : List Place) (t : Places) (i : ℕ) (r : Place) (view : places rows ≡ t) (at : r ≡ slice_index_or rows i r) (low : i < length t.running) where
  pub put-running : (x : Option TaskNo) → places (slice_set rows i (record r { running = x })) ≡ record t { running = slice_set t.running i x }
  put-running x = λ j. record {
    running = part-put (λ p. p.running) rows i (record r { running = x }) t.running (ap (λ p. p.running) view) j;
    seats = part-same (λ p. p.seats) rows i (record r { running = x }) r t.seats (ap (λ p. p.seats) view) at refl j;
  }

  pub put-seats : (x : Seated) → places (slice_set rows i (record r { seats = x })) ≡ record t { seats = slice_set t.seats i x }
  put-seats x = λ j. record {
    running = part-same (λ p. p.running) rows i (record r { seats = x }) r t.running (ap (λ p. p.running) view) at refl j;
    seats = part-put (λ p. p.seats) rows i (record r { seats = x }) t.seats (ap (λ p. p.seats) view) j;
  }

  pub seats-at : slice_index_or t.seats i no_seats ≡ r.seats
  seats-at = part-at (λ p. p.seats) rows i r t.seats no_seats (ap (λ p. p.seats) view) at (places-low rows t i view low)

module _ (rows : List Slot) (t : Slots) (i : ℕ) (r : Slot) (view : slots rows ≡ t) (at : r ≡ slice_index_or rows i r) (low : i < length t.families) where
  pub put-family : (f : Family → Family) → slots (slice_set rows i (record r { family = f r.family })) ≡ with_family i f t
  put-family f =
      let new : Slot = record r { family = f r.family } in
      let here : slice_index_or t.families i no_family ≡ r.family = part-at (λ p. p.family) rows i r t.families no_family (ap (λ p. p.families) view) at (slots-low rows t i view low) in
      λ j. record {
        families = (part-put (λ p. p.family) rows i new t.families (ap (λ p. p.families) view) ∙ ap (λ x. slice_set t.families i (f x)) (sym here)) j;
        folded = part-same (λ p. p.folded) rows i new r t.folded (ap (λ p. p.folded) view) at refl j;
        lost = part-same (λ p. p.lost) rows i new r t.lost (ap (λ p. p.lost) view) at refl j;
      }

  pub put-folded : (f : Sums → Sums) → slots (slice_set rows i (record r { folded = f r.folded })) ≡ record t { folded = slice_set t.folded i (f (slice_index_or t.folded i no_sums)) }
  put-folded f =
      let new : Slot = record r { folded = f r.folded } in
      let here : slice_index_or t.folded i no_sums ≡ r.folded = part-at (λ p. p.folded) rows i r t.folded no_sums (ap (λ p. p.folded) view) at (slots-low rows t i view low) in
      λ j. record {
        families = part-same (λ p. p.family) rows i new r t.families (ap (λ p. p.families) view) at refl j;
        folded = (part-put (λ p. p.folded) rows i new t.folded (ap (λ p. p.folded) view) ∙ ap (λ x. slice_set t.folded i (f x)) (sym here)) j;
        lost = part-same (λ p. p.lost) rows i new r t.lost (ap (λ p. p.lost) view) at refl j;
      }

  pub put-lost : slots (slice_set rows i (record r { lost = r.lost + 1 })) ≡ record t { lost = slice_set t.lost i (slice_index_or t.lost i 0 + 1) }
  put-lost =
      let new : Slot = record r { lost = r.lost + 1 } in
      let here : slice_index_or t.lost i 0 ≡ r.lost = part-at (λ p. p.lost) rows i r t.lost 0 (ap (λ p. p.lost) view) at (slots-low rows t i view low) in
      λ j. record {
        families = part-same (λ p. p.family) rows i new r t.families (ap (λ p. p.families) view) at refl j;
        folded = part-same (λ p. p.folded) rows i new r t.folded (ap (λ p. p.folded) view) at refl j;
        lost = (part-put (λ p. p.lost) rows i new t.lost (ap (λ p. p.lost) view) ∙ ap (λ n. slice_set t.lost i (n + 1)) (sym here)) j;
      }

  -- how many copies there are then
  pub put-copies : (new : Slot) → copies_in (slots (slice_set rows i new)).families + length r.family.copies ≡ copies_in t.families + length new.family.copies
  put-copies new =
      let now : (slots (slice_set rows i new)).families ≡ slice_set t.families i new.family = part-put (λ p. p.family) rows i new t.families (ap (λ p. p.families) view) in
      let here : slice_index_or t.families i no_family ≡ r.family = part-at (λ p. p.family) rows i r t.families no_family (ap (λ p. p.families) view) at (slots-low rows t i view low) in
      omega (arith, ap copies_in now, ap (λ f. length f.copies) here, sum_by-set (λ f. length f.copies) t.families i new.family no_family low)

-- the rows of idle processors, one for each PMU of a list
pub idle-made : (hw : Hardware) (pmus : List ℕ)
    → places (map (λ pmu. record { running = None; seats = empty_seating (slice_index hw.counters pmu) }) pmus)
    ≡ record { running = replicate (length pmus) None; seats = map (λ pmu. empty_seating (slice_index hw.counters pmu)) pmus }
idle-made hw [] = refl
idle-made hw (pmu ∷ pmus) = λ i. record {
  running = None ∷ (idle-made hw pmus i).running;
  seats = empty_seating (slice_index hw.counters pmu) ∷ (idle-made hw pmus i).seats;
}

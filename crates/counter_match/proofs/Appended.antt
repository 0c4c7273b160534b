-- One more event at the end of a list that has counters.
use Rattle.std.proofs.{Common.{ℕ, ◌+◌, ◌<◌, List, [], ◌∷◌, ◌++◌, length, sym, ap, ◌∙◌, arith}, lemmas.List.{length_push, get_or_append_left}}
use Rattle.stage_spec.specs.Fits.{IsAssignment}
use Rattle.counter_match.specs.Search.{SeatsAllBut}

pub SeatsAllBut-appended : (masks counters : List ℕ) (mask counter : ℕ) → IsAssignment masks counters → SeatsAllBut (length masks) (masks ++ mask ∷ []) (counters ++ counter ∷ [])
SeatsAllBut-appended masks counters mask counter a =
    record {
      one_each = length_push counters counter ∙ (ap (λ k. k + 1) a.one_each ∙ sym (length_push masks mask));
      allowed = λ i l n.
          let li : i < length masks = omega (arith, l, length_push masks mask) in
          let lc : i < length counters = omega (arith, a.one_each) in
          rw (get_or_append_left masks (mask ∷ []) 0 i li, get_or_append_left counters (counter ∷ []) 0 i lc) (a.allowed i li);
      different = λ i j l m n o e.
          let lj : j < length counters = omega (arith, m, length_push counters counter, a.one_each) in
          let li : i < length counters = omega arith in
          a.different i j l lj (sym (get_or_append_left counters (counter ∷ []) 0 i li) ∙ (e ∙ get_or_append_left counters (counter ∷ []) 0 j lj));
    }

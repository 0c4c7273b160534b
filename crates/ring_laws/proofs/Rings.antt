-- A script has few rings: their numbers rise and are small.
use Rattle.std.{specs.Prelude.{ℕ, zero, suc, ◌<◌, ◌≤◌, AllPairs, List, [], ◌∷◌, length}, proofs.Common.{arith, get_or}}
use Rattle.perf_base.specs.declared.numbers.RingNo.{RingNo}
use Rattle.ring_laws.specs.Counted.{FewRingsLaw}

-- a ring's number is at least its place
place-below : (rings : List (RingNo × ℕ)) (i : ℕ) (d : RingNo × ℕ) → AllPairs (λ q r. q.0.0 < r.0.0) rings → i < length rings → i ≤ (get_or rings i d).0.0
place-below rings zero d h l = omega arith
place-below rings (suc i) d h l = omega (arith, place-below rings i d h (omega arith), h i (suc i) d (omega arith) l)

few-below : (rings : List (RingNo × ℕ)) (n : ℕ) → AllPairs (λ q r. q.0.0 < r.0.0) rings
    → ((k : ℕ) (d : RingNo × ℕ) → k < length rings → (get_or rings k d).0.0 < n) → length rings ≤ n
few-below [] n h small = omega arith
few-below (r ∷ rings) n h small =
    let last : length rings ≤ (get_or (r ∷ rings) (length rings) r).0.0 = place-below (r ∷ rings) (length rings) r h (omega arith) in
    omega (arith, last, small (length rings) r (omega arith))

pub few-rings : FewRingsLaw
few-rings s h = few-below s.rings 16 h.rings_rise (λ k d l. (h.rings k d l).0)

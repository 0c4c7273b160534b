-- Each ring of a script has its declared size.
use Rattle.std.specs.Prelude.{◌≡◌, ℕ, zero, suc, ◌<◌, ◌==◌, false, All, AllPairs, List, [], ◌∷◌, find, length, Some}
use Rattle.std.proofs.{Common.{arith, ap, ◌∙◌, get_or}, lemmas.Bool.Decides.{nat_tests}}
use Rattle.perf_base.specs.{declared.numbers.RingNo.{RingNo}, Scripts.{Scripted, IsScript}}
use Rattle.ring_spec.specs.Rings.{bytes_in, bytes_of}
use Rattle.stage_laws.proofs.Leaders.{find-first, find-later}

-- the ring of a place among rings that rise is the one that its number finds
found-own : (rings : List (RingNo × ℕ)) (i : ℕ) (d : RingNo × ℕ) → AllPairs (λ (q r : RingNo × ℕ). q.0.0 < r.0.0) rings → i < length rings
    → find (λ (q : RingNo × ℕ). q.0.0 == (get_or rings i d).0.0) rings ≡ Some (get_or rings i d)
found-own [] i d h low = absurd (omega (arith, low))
found-own (r ∷ rings) zero d h low = find-first (λ (q : RingNo × ℕ). q.0.0 == r.0.0) r rings (grind (arith, nat_tests))
found-own (r ∷ rings) (suc i) d h low =
    let few : i < length rings = omega (arith, low) in
    let less : r.0.0 < (get_or rings i d).0.0 = h 0 (suc i) d (omega arith) low in
    let off : (r.0.0 == (get_or rings i d).0.0) ≡ false = grind (arith, nat_tests, less) in
    find-later (λ (q : RingNo × ℕ). q.0.0 == (get_or rings i d).0.0) r rings off
    ∙ found-own rings i d (λ j k e below inside. h (suc j) (suc k) e (omega (arith, below)) (omega (arith, inside))) few

-- so each ring has its declared size
abbrev pub IsDeclared : Scripted → RingNo × ℕ → Type 0
IsDeclared s r = bytes_of s r.0 ≡ r.1

pub all-declared : (s : Scripted) → IsScript s → All (IsDeclared s) s.rings
all-declared s h = λ i d low. ap bytes_in (found-own s.rings i d h.rings_rise low)

use Rattle.std.proofs.Common.{◌≡◌, ℕ, List, [], ◌∷◌, Result, Ok, Err, Some, IfOk, lit<, lit≤, refl, sym, ◌∙◌, subst}
use Rattle.std.{proofs.lemmas.List.Elements.{All-cons, All-nil}, specs.Result.{result_ok}}
use Rattle.sample_ring.specs.RingLists.{RingList, OutList, InList, AreNew}
use Rattle.ring_tests.proofs.Made.{reader_there}
use Rattle.ring_tests.proofs.sends.ends_cross_threads.Goals as goal
use Rattle.perf_base.specs.{declared.numbers.RingNo.{RingNo}, Scripts.{IsRingSize}}

abbrev HasSize : RingNo × ℕ → Type 0
HasSize s = IsRingSize s.1

pub make_rings-requires : goal.make_rings-requires
make_rings-requires g c =
    All-cons HasSize (record { 0 = 0 }, 64) ((record { 0 = 3 }, 128) ∷ []) (6, lit≤ tt, lit≤ tt, refl) (All-cons HasSize (record { 0 = 3 }, 128) [] (7, lit≤ tt, lit≤ tt, refl) (All-nil HasSize))

of_ok : {T E : Type 0} (r : Result T E) (x : T) (P : T → Type 0) → IfOk r P → Some x ≡ result_ok r → P x
of_ok (Ok y) x P h e = let same : x ≡ y = cc in subst P (sym same) h
of_ok (Err y) x P h e = absurd (cc)

pub lend-requires-clause-ins : goal.lend-requires-clause-ins
lend-requires-clause-ins g c =
    let sizes : List (RingNo × ℕ) = (record { 0 = 0 }, 64) ∷ (record { 0 = 3 }, 128) ∷ [] in
    let New : RingList × OutList × InList → Type 0 = λ r. AreNew sizes 9 r.0 r.1 r.2 in
    let is : Some (c.in_ok-rings.rings, c.in_ok-rings.outs, c.in_ok-rings.ins) ≡ result_ok c.make_rings.result = sym c.in_ok-rings.ensures.ok_part ∙ c.ok.ensures.value in
    let new : New (c.in_ok-rings.rings, c.in_ok-rings.outs, c.in_ok-rings.ins) = of_ok c.make_rings.result (c.in_ok-rings.rings, c.in_ok-rings.outs, c.in_ok-rings.ins) New c.make_rings.ensures is in
    reader_there sizes 9 c.in_ok-rings.rings c.in_ok-rings.outs c.in_ok-rings.ins (record { 0 = 3 }) new (rw new.ring_numbers (lit< tt))

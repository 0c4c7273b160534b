-- A text has one piece more than bytes between them.
use Rattle.std.{specs.Prelude.{◌≡◌, ℕ, ◌+◌, ◌<◌, ◌==◌, Bool, true, false, cond, List, [], ◌∷◌, length, count_by}, proofs.Common.{arith, refl}}
use Rattle.std.proofs.lemmas.List.Sums.{sum_by-cons}
use Rattle.script_spec.specs.Lines.{pieces, put_before}

length-put : (ends : Bool) (b : ℕ) (ps : List (List ℕ)) → 0 < length ps → length (put_before ends b ps) ≡ length ps + cond ends 1 0
length-put true b ps some = omega arith
length-put false b [] some = absurd (omega (arith, some))
length-put false b (p ∷ ps) some = omega arith

pub length-pieces : (c : ℕ) (bytes : List ℕ) → length (pieces c bytes) ≡ count_by (λ b. b == c) bytes + 1
unfolding pieces
length-pieces c [] = refl
length-pieces c (b ∷ bytes) =
    let rest : length (pieces c bytes) ≡ count_by (λ b. b == c) bytes + 1 = length-pieces c bytes in
    omega (arith, rest, length-put (b == c) b (pieces c bytes) (omega (arith, rest)), sum_by-cons (λ b. cond (b == c) 1 0) b bytes)

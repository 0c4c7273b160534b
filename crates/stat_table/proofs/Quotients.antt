-- Quotients are the greatest numbers of their kind.
use Rattle.std.proofs.Common.{◌≡◌, ℕ, zero, suc, ◌*◌, ◌/◌, ◌≤◌, ◌<◌, false, eqb, None, Some, arith, refl}
use Rattle.std.proofs.{Math.Nat.{div-mul-le_self, le-div_iff_mul-le, div-le_of_le-mul, mul-le-mul_left}, lemmas.Bool.{ne_eqb}}
use Rattle.std.specs.Prelude.{◌==◌, if◌then◌else◌, MatchOption, IfSome}
use Rattle.stat_table.specs.Estimates.{IsGreatest, EstimateLaw, ShareLaw, PartTimeLaw}

quotient : (n m : ℕ) → 0 < m → IsGreatest (λ q. q * m ≤ n) (n / m)
quotient n m l = record { has = div-mul-le_self n m; greatest = λ k h. (le-div_iff_mul-le {k = m} {x = k} {y = n} l).1 h }

some : (m : ℕ) → eqb (suc m) 0 ≡ false
some m = ne_eqb (suc m) 0 (λ e. absurd (omega (arith, e)))

quotient_if : (n m : ℕ) → MatchOption (if m == 0 then None else Some (n / m)) (m ≡ 0) (IsGreatest (λ q. q * m ≤ n))
quotient_if n zero = refl
quotient_if n (suc m) = rw (some m) (quotient n (suc m) (omega arith))

at_least : (n m v : ℕ) → v * m ≤ n → IfSome (if m == 0 then None else Some (n / m)) (λ q. v ≤ q)
at_least n zero v l = tt
at_least n (suc m) v l = rw (some m) ((quotient n (suc m) (omega arith)).greatest v l)

at_most : (n m v : ℕ) → n ≤ m * v → IfSome (if m == 0 then None else Some (n / m)) (λ q. q ≤ v)
at_most n zero v l = tt
at_most n (suc m) v l = rw (some m) (div-le_of_le-mul (suc m) {m = n} {n = v} l)

pub estimate_law : EstimateLaw
estimate_law value enabled running = quotient_if (value * enabled) running

pub share_law : ShareLaw
share_law enabled running = quotient_if (running * 10000) enabled

pub part_time_law : PartTimeLaw
part_time_law value enabled running l =
    (at_least (value * enabled) running value (mul-le-mul_left value l), at_most (running * 10000) enabled 10000 (omega arith))

-- The set of the processors that have a context, as far as they were looked at.
use Rattle.std.specs.{Prelude.{◌≡◌, ◌≢◌, ℕ, ◌+◌, ◌^◌, ◌&&◌, nat_lt, Bool, true, false, bit_or, if◌then◌else◌}, Int.{bit_at}}
use Rattle.std.proofs.{Common.{arith, refl, ◌∙◌}, lemmas.Bool.{Decides.{nat_tests}}}
use Rattle.std.proofs.lemmas.Nat.Bits.{bit_at_or, bit_at-pow_same, bit_at-pow_other}
use Rattle.perf_base.specs.{declared.{numbers.{CpuNo.{CpuNo}, CpuSet.{CpuSet}}, standing.Context.{Context}}}
use Rattle.stage_spec.specs.Stage.{Stage}
use Rattle.stage_laws.specs.Narrowing.{has_context}

abbrev as_bit : Bool → ℕ
as_bit b = if b then 1 else 0

-- of the first n processors those that have the context
abbrev pub AreThose : Stage → Context → ℕ → CpuSet → Type 0
AreThose s c n set = (cpu : CpuNo) → bit_at set.0 cpu.0 ≡ as_bit (nat_lt cpu.0 n && has_context s cpu c)

bit-same : (b : Bool) (x n : ℕ) → bit_at x n ≡ 0 → bit_at (if b then bit_or x (2 ^ n) else x) n ≡ as_bit b
bit-same true x n h = bit_at_or x (2 ^ n) n ∙ omega (arith, h, bit_at-pow_same n)
bit-same false x n h = h

bit-other : (b : Bool) (x n m : ℕ) → m ≢ n → bit_at (if b then bit_or x (2 ^ n) else x) m ≡ bit_at x m
bit-other true x n m apart = bit_at_or x (2 ^ n) m ∙ omega (arith, bit_at-pow_other n m apart)
bit-other false x n m apart = refl

pub more-those : (s : Stage) (c : Context) (n : ℕ) (set now : CpuSet) (b : Bool) → AreThose s c n set → b ≡ has_context s (record { 0 = n }) c
    → now.0 ≡ (if b then bit_or set.0 (2 ^ n) else set.0) → AreThose s c (n + 1) now
more-those s c n set now b h has is cpu = grind (arith, nat_tests, bit-same, bit-other)

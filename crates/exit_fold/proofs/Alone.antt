-- The set of one processor has that one and no other.
use Rattle.std.{specs.{Prelude.{◌≡◌, ◌^◌, ◌↔◌, max, bit_or}, Int.{bit_at}}, proofs.{Common.{arith}}}
use Rattle.std.proofs.lemmas.Nat.Bits.{bit_at_or, bit_at-zero, bit_at-pow_same, bit_at-pow_other}
use Rattle.perf_base.specs.{Cpus.{HasCpu}, declared.numbers.{CpuNo.{CpuNo}, CpuSet.{CpuSet}}}

-- the bits of one after those of none
bit-of_one : (set now : CpuSet) (c cpu : CpuNo) → set.0 ≡ 0 → now.0 ≡ bit_or set.0 (2 ^ c.0) → bit_at now.0 cpu.0 ≡ max 0 (bit_at (2 ^ c.0) cpu.0)
bit-of_one set now c cpu none is = grind (arith, bit_at_or, bit_at-zero)

pub is-alone : (set now : CpuSet) (c : CpuNo) → set.0 ≡ 0 → now.0 ≡ bit_or set.0 (2 ^ c.0) → (cpu : CpuNo) → HasCpu now cpu ↔ (cpu.0 ≡ c.0)
is-alone set now c none is cpu = grind (arith, bit-of_one, bit_at-pow_same, bit_at-pow_other)

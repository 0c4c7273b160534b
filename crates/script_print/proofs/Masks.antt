-- The processors of a PMU, gathered one after the other.
use Rattle.std.proofs.Common.{◌≡◌, ◌≢◌, ℕ, ◌+◌, ◌^◌, ◌<◌, ◌≤◌, List, length, get_or, map, Some, inl, inr, refl, sym, ap, subst, ◌∙◌, arith}
use Rattle.std.proofs.lemmas.Bool.{cases_lt}
use Rattle.std.proofs.lemmas.Nat.Bits.{bit_at_or, bit_at-lt, bit_at-pow_same, bit_at-pow_other, bit_at_above, same_from_bits}
use Rattle.std.{proofs.lemmas.Option.{slice_get-get_or, slice_get-map}, specs.{Prelude.{bit_or, AllPairs, IfSome, slice_get}, Int.{bit_at}}}
use Rattle.std.specs.Option.{option_map}
use Rattle.perf_base.specs.{declared.{numbers.{CpuNo.{CpuNo}, CpuSet.{CpuSet}}, lines.PmuLine.{PmuLine}}, Cpus.{HasCpu}}
use Rattle.perf_base.{specs.Scripts.{Scripted, IsScript, AreApart}, proofs.Bits.{apart_bits}}

abbrev pub no_pmu : PmuLine
no_pmu = record { counters = 0; cpus = record { 0 = 0 } }

-- the processors of the PMU at a place, by bits
abbrev pub mask_at : List PmuLine → ℕ → ℕ
mask_at pmus k = (get_or pmus k no_pmu).cpus.0

-- the set has those of the processors below n that are of the PMU
pub record IsGathered (pmus : List PmuLine) (pmu n set : ℕ) : Type 0 where
  pub below : (i : ℕ) → i < n → bit_at set i ≡ bit_at (mask_at pmus pmu) i
  pub above : (i : ℕ) → n ≤ i → bit_at set i ≡ 0

-- a processor has its bit in the mask of its PMU
pub own_bit : (pmus : List PmuLine) (k : ℕ) (cpu : CpuNo) → k < length pmus → IfSome (slice_get pmus k) (λ p. HasCpu p.cpus cpu) → bit_at (mask_at pmus k) cpu.0 ≡ 1
own_bit pmus k cpu l h = subst (λ o. IfSome o (λ p. HasCpu p.cpus cpu)) (slice_get-get_or pmus k no_pmu l) h

-- and in no other mask
pub other_bit : (pmus : List PmuLine) (k pmu i : ℕ) → AllPairs AreApart pmus → k < length pmus → pmu < length pmus → k ≢ pmu
    → bit_at (mask_at pmus k) i ≡ 1 → bit_at (mask_at pmus pmu) i ≡ 0
other_bit pmus k pmu i apart l m ne h = elim (cases_lt k pmu) [
  | inl before ↦ omega (arith, h, apart_bits (mask_at pmus k) (mask_at pmus pmu) (apart k pmu no_pmu before m) i)
  | inr behind ↦ omega (arith, h, apart_bits (mask_at pmus pmu) (mask_at pmus k) (apart pmu k no_pmu (omega (arith, ne, behind)) l) i)
]

-- a set that has the bit of the PMU's mask at the next processor, and the bits of the old set elsewhere
gathered_next : (pmus : List PmuLine) (pmu n set next : ℕ) → IsGathered pmus pmu n set → bit_at next n ≡ bit_at (mask_at pmus pmu) n → ((i : ℕ) → i ≢ n → bit_at next i ≡ bit_at set i) → IsGathered pmus pmu (n + 1) next
gathered_next pmus pmu n set next g here others = grind arith

pub IsGathered-other : (pmus : List PmuLine) (pmu n set : ℕ) → IsGathered pmus pmu n set → bit_at (mask_at pmus pmu) n ≡ 0 → IsGathered pmus pmu (n + 1) set
IsGathered-other pmus pmu n set g z = gathered_next pmus pmu n set set g (g.above n (omega arith) ∙ sym z) (λ i ne. refl)

pub IsGathered-own : (pmus : List PmuLine) (pmu n set : ℕ) → IsGathered pmus pmu n set → bit_at (mask_at pmus pmu) n ≡ 1 → IsGathered pmus pmu (n + 1) (bit_or set (2 ^ n))
IsGathered-own pmus pmu n set g one = grind (arith, gathered_next, bit_at_or, bit_at-pow_same, bit_at-lt, bit_at-pow_other)

set_of : ℕ → CpuSet
set_of n = record { 0 = n }

-- all processors gathered are those of the PMU
pub gathered : (s : Scripted) (pmu : ℕ) (set : CpuSet) → IsScript s → pmu < length s.pmus → IsGathered s.pmus pmu s.cpus set.0 → slice_get (map (λ p. p.cpus) s.pmus) pmu ≡ Some set
unfolding set_of
gathered s pmu set sound l g =
    let bits : set.0 ≡ mask_at s.pmus pmu = same_from_bits set.0 (mask_at s.pmus pmu) (λ i. elim (cases_lt i s.cpus) [
      | inl lt ↦ g.below i lt
      | inr ge ↦ g.above i ge ∙ sym (bit_at_above (mask_at s.pmus pmu) s.cpus i (sound.pmus pmu no_pmu l).cpus.1 ge)
    ]) in
    let same : (get_or s.pmus pmu no_pmu).cpus ≡ set = ap set_of (sym bits) in
    slice_get-map (λ p. p.cpus) s.pmus pmu ∙ (ap (option_map (λ p. p.cpus)) (slice_get-get_or s.pmus pmu no_pmu l) ∙ ap Some same)

-- How large the numbers of a script are: a ring's number and bytes, and a kind's mask.
use Rattle.std.proofs.Common.{ℕ, zero, suc, ◌^◌, ◌<◌, ◌≤◌, All, List, [], ◌∷◌, length, arith}
use Rattle.std.proofs.{Math.Pow.{pow_mono}, lemmas.List.Elements.{All-head, All-tail}}
use Rattle.perf_base.specs.{declared.{numbers.RingNo.{RingNo}, lines.PmuLine.{PmuLine}}, Scripts.{IsPmuLine, IsMaskOf, IsRingLine, HasRing}}

pub ring_small : (rings : List (RingNo × ℕ)) (ring : RingNo) → All IsRingLine rings → HasRing rings ring → ring.0 < 16
ring_small rings ring small there = grind arith

pub ring_bytes : (ring : RingNo × ℕ) → IsRingLine ring → ring.1 ≤ 65536
ring_bytes ring h = omega (arith, pow_mono h.1.2, h.1.3)

pub mask_small : (pmus : List PmuLine) (n k mask : ℕ) → All (IsPmuLine n) pmus → IsMaskOf pmus k mask → (k < length pmus) × (mask < 2 ^ 16)
mask_small [] n k mask h m = absurd m
mask_small (p ∷ pmus) n zero mask h m = (omega arith, omega (arith, m.1, pow_mono (All-head (IsPmuLine n) p pmus h).counters.1))
mask_small (p ∷ pmus) n (suc k) mask h m = let r = mask_small pmus n k mask (All-tail (IsPmuLine n) p pmus h) m in (omega (arith, r.0), r.1)

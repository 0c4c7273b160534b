-- Sets of bits that have none in common.
use Rattle.std.{proofs.{Common.{◌≡◌, ℕ, min, sym, ap, ◌∙◌}, lemmas.Nat.Bits.{bit_at_and, bit_at-zero}}, specs.{Prelude.{bit_and}, Int.{bit_at}}}

-- no bit is in both
pub apart_bits : (a b : ℕ) → bit_and a b ≡ 0 → (i : ℕ) → min (bit_at a i) (bit_at b i) ≡ 0
apart_bits a b e i = sym (bit_at_and a b i) ∙ (ap (λ n. bit_at n i) e ∙ bit_at-zero i)

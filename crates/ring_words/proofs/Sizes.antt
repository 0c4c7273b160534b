-- A ring's size in bytes and in words.
use Rattle.std.proofs.{Common.{◌≡◌, ℕ, zero, suc, ◌*◌, ◌/◌, ◌^◌, ◌≤◌, pow-suc, sym, subst, arith}, Math.Pow.{pow_mono}}
use Rattle.perf_base.specs.Scripts.{IsRingSize}
use Rattle.ring_words.specs.Ends.{cells_of}

pub least_bytes : (bytes : ℕ) → IsRingSize bytes → 64 ≤ bytes
least_bytes bytes size = let P : ℕ → Type 0 = λ n. 64 ≤ n in subst P (sym size.3) (pow_mono size.1)

eighths : (bytes k : ℕ) → bytes ≡ 2 ^ k → 64 ≤ bytes → 8 * (bytes / 8) ≡ bytes
eighths bytes zero e h = absurd (omega arith)
eighths bytes (suc zero) e h = absurd (omega arith)
eighths bytes (suc (suc zero)) e h = absurd (omega arith)
eighths bytes (suc (suc (suc k))) e h = omega (arith, e, pow-suc 2 k, pow-suc 2 (suc k), pow-suc 2 (suc (suc k)))

pub bytes_of_cells : (bytes : ℕ) → IsRingSize bytes → 8 * cells_of bytes ≡ bytes
bytes_of_cells bytes size = eighths bytes size.0 size.3 (least_bytes bytes size)

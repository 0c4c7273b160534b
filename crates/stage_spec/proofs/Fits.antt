-- Counters that the masks allow, with one more before them.
use Rattle.std.specs.Prelude.{◌≡◌, ℕ, zero, suc, ◌<◌, true, List, ◌∷◌, length}
use Rattle.std.proofs.Common.{arith, get_or}
use Rattle.stage_spec.specs.Fits.{can_count}

pub allowed-cons : (m c : ℕ) (ms cs : List ℕ) → can_count m c ≡ true → ((i : ℕ) → i < length ms → can_count (get_or ms i 0) (get_or cs i 0) ≡ true)
    → (i : ℕ) → i < length (m ∷ ms) → can_count (get_or (m ∷ ms) i 0) (get_or (c ∷ cs) i 0) ≡ true
allowed-cons m c ms cs h t zero l = h
allowed-cons m c ms cs h t (suc i) l = t i (omega arith)

-- inner
-- How far the totals of processors have come, within the limits on lines of work. This project's own profile.
use Rattle.std.specs.Prelude.{◌≡◌, ℕ, ◌+◌, ◌≤◌, slice_index}
use Rattle.perf_base.specs.declared.numbers.CpuNo.{CpuNo}
use Rattle.world_spec.specs.Value.{World, Totals, totals_at}

-- No total is above a number.
pub record AreUpTo (most : ℕ) (t : Totals) : Type 0 where
  pub user : (number : ℕ) → slice_index t.user number ≤ most
  pub kernel : (number : ℕ) → slice_index t.kernel number ≤ most

-- A line of a processor adds at most a thousand million to each of its totals, and leaves those of the others.
pub record HaveGrown (cpu : CpuNo) (w after : World) : Type 0 where
  pub own : (most : ℕ) → AreUpTo most (totals_at w cpu) → AreUpTo (most + 1000000000) (totals_at after cpu)
  pub others : (other : CpuNo) → (other.0 ≡ cpu.0 → ⊥) → totals_at after other ≡ totals_at w other

use Rattle.std.proofs.Common.{◌≡◌, ℕ, ◌+◌, ◌<◌, ◌≤◌, slice_index}
use Rattle.world_tables.proofs.meter.add_to_each.Given as goal

abbrev pub invariant-loop-number : goal.invariant-loop-number
invariant-loop-number g l =
    ((k : ℕ) → k < l.number → slice_index l.totals k ≡ slice_index l.fn.totals k + slice_index l.hits k)
    × ((k : ℕ) → l.number ≤ k → slice_index l.totals k ≡ slice_index l.fn.totals k)
    × (l.steps ≡ l.fn.steps + l.number)

use Rattle.std.proofs.Common.{ℕ, ◌≢◌, ◌≤◌, ◌<◌, ◌^◌}
use Rattle.script_read.proofs.numbers.is_ring_size.Given as goal

abbrev pub invariant-loop-exponent : goal.invariant-loop-exponent
invariant-loop-exponent l = (k : ℕ) → 6 ≤ k → k < l.exponent → l.bytes ≢ 2 ^ k

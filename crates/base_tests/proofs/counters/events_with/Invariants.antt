use Rattle.std.proofs.Common.{◌≡◌, ℕ, ◌<◌, length, take, get_or}
use Rattle.perf_base.specs.declared.numbers.EventNo.{EventNo}
use Rattle.stage_spec.specs.Tight.{masks_of}
use Rattle.base_tests.proofs.counters.events_with.Given as goal

abbrev pub invariant-loop-slot : goal.invariant-loop-slot
invariant-loop-slot l = record {
  masks : masks_of l.events.items ≡ take l.slot l.masks;
  slots : (k : ℕ) (d : EventNo × ℕ) → k < length l.events.items → (get_or l.events.items k d).0.0 ≡ k;
  count : length l.events.items ≡ l.slot;
}

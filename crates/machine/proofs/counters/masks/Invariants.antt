use Rattle.std.{specs.Prelude.{◌≡◌, ℕ, ◌<◌, ◌≤◌, length, slice_index}, proofs.Common.{get_or}}
use Rattle.machine.proofs.Declared.{no_kind}
use Rattle.machine.proofs.counters.masks.Given as goal

abbrev pub invariant-loop-kind : goal.invariant-loop-kind
invariant-loop-kind l = record {
  end : l.kind-end ≡ length l.script.kinds;
  few : length l.script.kinds ≤ 16;
  long : length l.masks ≡ 16;
  each : (kind : ℕ) → kind < l.kind → slice_index l.masks kind ≡ (get_or l.script.kinds kind no_kind).mask;
}

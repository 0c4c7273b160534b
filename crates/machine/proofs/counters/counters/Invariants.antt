use Rattle.std.{specs.Prelude.{◌≡◌, ℕ, ◌<◌, ◌≤◌, length, slice_index}, proofs.Common.{get_or}}
use Rattle.machine.proofs.Declared.{no_pmu}
use Rattle.machine.proofs.counters.counters.Given as goal

abbrev pub invariant-loop-pmu : goal.invariant-loop-pmu
invariant-loop-pmu l = record {
  end : l.pmu-end ≡ length l.script.pmus;
  few : length l.script.pmus ≤ 4;
  long : length l.counters ≡ 4;
  each : (pmu : ℕ) → pmu < l.pmu → slice_index l.counters pmu ≡ (get_or l.script.pmus pmu no_pmu).counters;
  rest : (pmu : ℕ) → l.pmu ≤ pmu → slice_index l.counters pmu ≡ 0;
}

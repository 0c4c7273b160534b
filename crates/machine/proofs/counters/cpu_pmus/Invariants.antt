use Rattle.std.specs.Prelude.{◌≡◌, ℕ, ◌<◌, ◌≤◌, length, slice_index}
use Rattle.stage_spec.specs.Hardware.{pmu_with}
use Rattle.machine.proofs.counters.cpu_pmus.Given as goal

abbrev pub invariant-loop-cpu : goal.invariant-loop-cpu
invariant-loop-cpu l = record {
  end : l.cpu-end ≡ l.script.cpus;
  few : l.script.cpus ≤ 8;
  long : length l.pmus ≡ 8;
  each : (cpu : ℕ) → cpu < l.cpu → slice_index l.pmus cpu ≡ pmu_with l.script.pmus cpu;
}

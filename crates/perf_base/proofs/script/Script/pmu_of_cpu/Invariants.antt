use Rattle.std.{proofs.Common.{ℕ, ◌<◌}, specs.Prelude.{IfSome, slice_get}}
use Rattle.perf_base.specs.Cpus.{HasCpu}
use Rattle.perf_base.proofs.script.Script.pmu_of_cpu.Given as goal

abbrev pub invariant-loop-pmu : goal.invariant-loop-pmu
invariant-loop-pmu l = (k : ℕ) → k < l.pmu → IfSome (slice_get l.self.pmus k) (λ p. HasCpu p.cpus l.cpu → ⊥)

use Rattle.std.{proofs.Common.{ℕ, ◌<◌}, specs.Prelude.{Any}}
use Rattle.perf_base.specs.Cpus.{HasCpu}
use Rattle.perf_base.proofs.script.Script.is_covered.Given as goal

abbrev pub invariant-loop-cpu : goal.invariant-loop-cpu
invariant-loop-cpu l = (k : ℕ) → k < l.cpu → Any (λ line. HasCpu line.cpus (record { 0 = k })) l.self.pmus

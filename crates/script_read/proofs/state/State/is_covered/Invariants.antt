use Rattle.std.proofs.Common.{◌<◌}
use Rattle.perf_base.specs.{declared.numbers.CpuNo.{CpuNo}, Cpus.{HasCpu}}
use Rattle.script_read.proofs.state.State.is_covered.Given as goal

abbrev pub invariant-loop-cpu : goal.invariant-loop-cpu
invariant-loop-cpu l = (p : CpuNo) → p.0 < l.cpu → HasCpu l.self.named p

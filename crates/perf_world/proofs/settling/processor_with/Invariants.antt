use Rattle.std.proofs.Common.{◌≡◌, ◌<◌, Some, None, slice_index_or}
use Rattle.perf_base.specs.declared.numbers.CpuNo.{CpuNo}
use Rattle.perf_world.proofs.settling.processor_with.Given as goal

abbrev pub invariant-loop-cpu : goal.invariant-loop-cpu
invariant-loop-cpu l = (cpu : CpuNo) → cpu.0 < l.cpu → slice_index_or l.processors.running cpu.0 None ≡ Some l.task → ⊥

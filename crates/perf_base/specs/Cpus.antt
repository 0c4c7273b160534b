-- believed
-- Sets of processors, by bits. This project's own profile.
use Rattle.std.specs.{Prelude.{◌≡◌}, Int.{bit_at}}
use Rattle.perf_base.specs.declared.numbers.{CpuNo.{CpuNo}, CpuSet.{CpuSet}}

-- the processor is in the set
abbrev pub HasCpu : CpuSet → CpuNo → Type 0
HasCpu set cpu = bit_at set.0 cpu.0 ≡ 1

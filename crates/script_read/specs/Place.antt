-- inner
-- Where a form may stand: the sections in their order, PMUs for all processors, and headers. This project's own
-- profile.
use Rattle.std.specs.Prelude.{◌<◌, ◌≤◌, IsSome}
use Rattle.perf_base.specs.{declared.numbers.CpuNo.{CpuNo}, Cpus.{HasCpu}}
use Rattle.script_spec.specs.Forms.{Form}
use Rattle.script_spec.specs.Forms as form
use Rattle.script_read.specs.{declared.state.State.{State}, State.{rank_of, part_of}}

-- each processor is of some PMU
abbrev pub IsCoveredOf : State → Type 0
IsCoveredOf s = (cpu : CpuNo) → cpu.0 < s.script.cpus → HasCpu s.named cpu

abbrev pub IsUnderOf : State → Form → Type 0
IsUnderOf s (form.OnProcessor line) = IsSome s.cpu
IsUnderOf s (form.OnTool line) = IsSome s.tool
IsUnderOf s other = Unit {0}

abbrev pub IsInOrderOf : State → Form → Type 0
IsInOrderOf s f = rank_of s.section ≤ rank_of (part_of f)

abbrev pub IsBehindOf : State → Form → Type 0
IsBehindOf s f = IsInOrderOf s f × IsCoveredOf s × IsUnderOf s f

-- behind the machine
abbrev pub IsPlacedOf : State → Form → Type 0
IsPlacedOf s (form.Perf version) = ⊥
IsPlacedOf s (form.Machine cpus counters) = ⊥
IsPlacedOf s (form.MachineOfPmus cpus) = ⊥
IsPlacedOf s (form.Pmu number counters cpus) = IsInOrderOf s (form.Pmu number counters cpus)
IsPlacedOf s other = IsBehindOf s other

-- its section may come next: nothing but PMUs before each processor is of one
abbrev pub IsReachedOf : State → Form → Type 0
IsReachedOf s (form.Pmu number counters cpus) = IsInOrderOf s (form.Pmu number counters cpus)
IsReachedOf s other = IsInOrderOf s other × IsCoveredOf s

-- what stands under a header has one before it; the version and the machine stand at the top alone
abbrev pub HasHeader : State → Form → Type 0
HasHeader s (form.Perf version) = ⊥
HasHeader s (form.Machine cpus counters) = ⊥
HasHeader s (form.MachineOfPmus cpus) = ⊥
HasHeader s other = IsUnderOf s other

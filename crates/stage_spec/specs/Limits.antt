-- inner
-- Lines whose numbers, kinds and rings keep a script's limits. This project's own profile.
use Rattle.std.specs.Prelude.{◌≡◌, ℕ, ◌<◌, All, List, length}
use Rattle.perf_base.specs.declared.numbers.{RingNo.{RingNo}, TaskNo.{TaskNo}}
use Rattle.perf_base.specs.Scripts.{Scripted, IsScript, IsCovered, IsCpuLine, IsToolLine, HasRing}
use Rattle.stage_spec.specs.{Hardware.{Hardware, IsHardware, hardware_of}, Stage.{Stage}, History.{Step, CpuStep, ToolStep, SeenStep}}

-- how many processors and hardware kinds there are, and the rings with their bytes
pub record Limits : Type 0 where
  pub cpus : ℕ
  pub kinds : ℕ
  pub rings : List (RingNo × ℕ)

-- those of a script
abbrev pub limits_of : Scripted → Limits
limits_of s = record { cpus = s.cpus; kinds = length s.kinds; rings = s.rings }

-- a line of a processor that there is, a line of a tool, or a look at a ring that there is, each within the limits
abbrev pub IsWithin : Limits → Step → Type 0
IsWithin l (CpuStep cpu line) = (cpu.0 < l.cpus) × IsCpuLine l.kinds line
IsWithin l (ToolStep line) = IsToolLine l.cpus l.kinds l.rings line
IsWithin l (SeenStep ring place) = HasRing l.rings ring

-- the machine that the limits speak of: each processor and each kind is of a PMU
pub record IsMachine (l : Limits) (hw : Hardware) : Type 0 where
  pub sound : IsHardware hw
  pub cpus : length hw.cpu_pmus ≡ l.cpus
  pub kinds : (length hw.kind_pmus ≡ l.kinds) × (length hw.masks ≡ l.kinds)

-- the tasks that exist from the start have numbers below 64
abbrev pub AreTaskNumbers : List TaskNo → Type 0
AreTaskNumbers declared = All (λ task. task.0 < 64) declared

-- The counters that a script declares are such a machine, where each of its processors is of some PMU.
abbrev pub ScriptMachineLaw : Type 0
ScriptMachineLaw = (s : Scripted) → IsScript s → IsCovered s → IsMachine (limits_of s) (hardware_of s)

-- as many processors as the machine has, and room for 64 tasks and for the contexts of all
pub record HasShape (hw : Hardware) (s : Stage) : Type 0 where
  pub running : length s.running ≡ length hw.cpu_pmus
  pub tasks : length s.tasks ≡ 64
  pub contexts : length s.contexts ≡ 72

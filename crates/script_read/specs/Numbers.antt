-- inner
-- What the ranges of numbers and masks ask, of the script so far and what the state keeps beside it. This project's own
-- profile.
use Rattle.std.specs.Prelude.{◌≡◌, ℕ, ◌<◌, ◌≤◌, ◌^◌, bit_and, List, length, All, Option, option_map, IfSome}
use Rattle.perf_base.specs.declared.{numbers.{RingNo.{RingNo}, TaskNo.{TaskNo}}, lines.{PmuLine.{PmuLine}, ReaderLine.{ReaderLine}}}
use Rattle.perf_base.specs.Scripts.{IsPmuLine, IsMaskOf, IsRingLine}
use Rattle.script_spec.specs.{Acts.{IsActInRange}, Forms.{Opening, Form}, Meaning.{slot, task_sel, cpu_sel}}
use Rattle.script_spec.specs.Faults.{IsBetween, IsWide, IsTaskNumber, IsCpuFormInRange, IsToolFormInRange}
use Rattle.script_spec.specs.Forms as form
use Rattle.script_read.specs.{declared.{numbers.Place.{Place}, state.State.{State}}, State.{cpu_number, tool_number}}

-- the next PMU, with none of the processors that are named
pub record IsNextPmuOf (cpus : ℕ) (pmus : List PmuLine) (named number counters own : ℕ) : Type 0 where
  pub next : number ≡ length pmus
  pub few : number ≤ 3
  pub line : IsPmuLine cpus (record { counters = counters; cpus = record { 0 = own } })
  pub apart : bit_and named own ≡ 0

-- some processors of the machine, and none that is named
abbrev pub IsFreeMask : ℕ → ℕ → ℕ → Type 0
IsFreeMask cpus named own = (0 < own) × (own < 2 ^ cpus) × (bit_and named own ≡ 0)

-- above the last task, and above the last ring
abbrev pub IsNextTask : List TaskNo → ℕ → Type 0
IsNextTask tasks number = IsTaskNumber number × All (λ t. t.0 < number) tasks

abbrev pub IsNextRing : List (RingNo × ℕ) → ℕ → ℕ → Type 0
IsNextRing rings number bytes = IsRingLine (record { 0 = number }, bytes) × All (λ r. r.0.0 < number) rings

-- below the limit, and above the last number
abbrev pub IsNextNumber : ℕ → Option ℕ → ℕ → Type 0
IsNextNumber limit last number = (number < limit) × IfSome last (λ n. n < number)

abbrev pub IsNextReader : List ReaderLine → ℕ → ℕ → ℕ → Type 0
IsNextReader readers ring tries batch = IsWide ring × IsBetween 1 65536 tries × IsBetween 1 1024 batch × All (λ r. r.ring.0 < ring) readers

-- the numbers and masks of a form
abbrev pub IsInRangeOf : State → Form → Type 0
IsInRangeOf s (form.Perf version) = Unit {0}
IsInRangeOf s (form.Machine cpus counters) = IsBetween 1 8 cpus × IsBetween 1 16 counters
IsInRangeOf s (form.MachineOfPmus cpus) = IsBetween 1 8 cpus
IsInRangeOf s (form.Pmu number counters cpus) = IsNextPmuOf s.script.cpus s.script.pmus s.named.0 number counters cpus
IsInRangeOf s (form.Kind name mask) = IsMaskOf s.script.pmus 0 mask
IsInRangeOf s (form.KindOfPmu name pmu mask) = IsMaskOf s.script.pmus pmu mask
IsInRangeOf s (form.Task number) = IsNextTask s.script.tasks number
IsInRangeOf s (form.Ring number bytes) = IsNextRing s.script.rings number bytes
IsInRangeOf s (form.Processor number) = IsNextNumber s.script.cpus (cpu_number s.cpu) number
IsInRangeOf s (form.OnProcessor line) = IsCpuFormInRange line
IsInRangeOf s (form.Tool number) = IsNextNumber 4 (tool_number s.tool) number
IsInRangeOf s (form.OnTool line) = IsToolFormInRange s.script.cpus line
IsInRangeOf s (form.Reader ring tries batch) = IsNextReader s.script.readers ring tries batch
IsInRangeOf s (form.Order acts) = All IsActInRange acts
IsInRangeOf s form.End = Unit {0}

-- where an event is opened, in the terms of a script
abbrev pub opening_place : Opening → Place
opening_place p = record { event = slot p.slot; task = task_sel p.task; cpu = cpu_sel p.cpu; leader = option_map slot p.leader }

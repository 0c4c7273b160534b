-- inner
-- How far the clocks of processors go, and the sums of events over an order of a script. This project's own profile,
-- after its limits on work and on lines.
use Rattle.std.specs.Prelude.{◌^◌, ◌<◌, ◌≤◌, All, List, count_by}
use Rattle.perf_base.specs.{declared.{numbers.{CpuNo.{CpuNo}, EventNo.{EventNo}}, acts.Act.{Act}}, Scripts.{Scripted, IsScript, IsCovered}}
use Rattle.stage_spec.specs.{Hardware.{hardware_of}, History.{Step, history, opening_stage}, Families.{family_sums}, Limits.{Limits}}
use Rattle.stage_laws.specs.Bounds.{most_of_all, is_line, IsLineWithin, AreSmall}
use Rattle.ring_spec.specs.Sending.{clock_of}

-- The clock of a processor goes no further than the work of all of them.
abbrev pub ClockLaw : Type 0
ClockLaw = (steps : List Step) (cpu : CpuNo) → clock_of steps cpu ≤ (most_of_all steps).enabled

-- Within the limits it is small after 16,384 lines, however many looks there are between them.
abbrev pub SmallClockLaw : Type 0
SmallClockLaw = (l : Limits) (steps : List Step) (cpu : CpuNo) → All (IsLineWithin l) steps → count_by is_line steps ≤ 16384
    → clock_of steps cpu < 2 ^ 44

-- So both are small over any order of a script, whatever looks it has: it does each line of the script at most once.
abbrev pub SmallSumsOfScriptLaw : Type 0
SmallSumsOfScriptLaw = (s : Scripted) (order : List Act) (e : EventNo) → IsScript s → IsCovered s
    → AreSmall (family_sums (hardware_of s) (opening_stage s) (history s order) e)

abbrev pub SmallClockOfScriptLaw : Type 0
SmallClockOfScriptLaw = (s : Scripted) (order : List Act) (cpu : CpuNo) → IsScript s → clock_of (history s order) cpu < 2 ^ 44

-- inner
-- What acts of a script leave: a world and the ends of its rings. This project's own profile, after its limits on
-- scripts.
use Rattle.std.specs.Prelude.{◌≡◌, ◌≤◌, List, [], ◌∷◌}
use Rattle.perf_base.specs.{declared.{acts.Act.{Act}, lines.Work.{Work}, numbers.CpuNo.{CpuNo}}, Scripts.{Scripted, IsCovered, IsScript}}
use Rattle.perf_base.specs.Weight.{weight}
use Rattle.perf_base.specs.declared.acts.Act.TheVariants as act
use Rattle.perf_base.specs.declared.lines.CpuLine.TheVariants as line
use Rattle.stage_spec.specs.{Hardware.{hardware_of}, History.{CpuStep, history, opening_stage, steps_of}}
use Rattle.stage_laws.specs.Sound.{IsSound}
use Rattle.ring_spec.specs.Running.{record_of}
use Rattle.sample_ring.specs.RingLists.{OutList}
use Rattle.world_spec.specs.{Agreement.{AgreesWith}, Kept.{IsKept}, StageOf.{stage_of}, Value.{World}}
use Rattle.work_account.specs.{Ends.{HaveAccounts}, Sampling.{HaveRings, HaveSpaceToSend, ends_of}}

-- The world agrees with the record of the acts' steps, and the ends have the accounts of the record's rings.
pub record IsLeft (s : Scripted) (acts : List Act) (w : World) (outs : OutList) : Type 0 where
  pub hardware : w.hardware ≡ hardware_of s
  pub agrees : AgreesWith w (record_of (hardware_of s) (opening_stage s) s.rings (history s acts))
  pub ends : HaveAccounts outs (record_of (hardware_of s) (opening_stage s) s.rings (history s acts)).rings

-- So each ring that an event writes to has its end.
abbrev pub RingsThereLaw : Type 0
RingsThereLaw = (s : Scripted) (acts : List Act) (w : World) (outs : OutList) → IsScript s → IsCovered s → IsKept w.hardware w → IsLeft s acts w outs
    → IsSound w.hardware (stage_of w) → HaveRings w outs.numbers

-- And there is space for all records of the next line of work, where the script is not too heavy.
abbrev pub SpaceLaw : Type 0
SpaceLaw = (s : Scripted) (acts : List Act) (w : World) (outs : OutList) (cpu : CpuNo) (work : Work) → IsScript s → IsCovered s → weight s ≤ 65536
    → IsKept w.hardware w → IsLeft s acts w outs → steps_of s acts (act.Processor cpu) ≡ CpuStep cpu (line.Work work) ∷ []
    → HaveSpaceToSend w (ends_of outs w) cpu work

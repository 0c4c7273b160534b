-- inner
-- Which given lines lead to a machine. They may be any lines that keep a script's limits, whether the script has them
-- or not. This project's own profile.
use Rattle.std.specs.Prelude.{◌≡◌, ◌<◌, ◌≤◌, ◌==◌, All, Bool, false, List, [], ◌∷◌, count_by, slice_index_or}
use Rattle.perf_base.specs.{declared.{acts.Act.{Act}, numbers.CpuNo.{CpuNo}, reply.Reply.{Reply}}, Scripts.{Scripted, IsCovered, IsScript}}
use Rattle.stage_spec.specs.{Hardware.{hardware_of}, History.{Step, CpuStep, ToolStep, SeenStep, history, opening_stage}, Limits.{limits_of}}
use Rattle.stage_spec.specs.Replies.{AreReplies}
use Rattle.stage_laws.specs.Bounds.{IsLineWithin, is_line}
use Rattle.ring_spec.specs.{Rings.{lost_count}, Running.{Running, record_of}}
use Rattle.world_spec.specs.Agreement.{AgreesWith}
use Rattle.work_account.specs.Ends.{HaveAccounts}
use Rattle.machine.specs.Leading.{Kept, LeadTo}

-- the record of given steps on a script's machine: the stage that they leave, and what each event has counted
abbrev pub record_by : Scripted → List Step → Running
record_by s steps = record_of (hardware_of s) (opening_stage s) s.rings steps

-- whether a step is a line of this processor
abbrev pub is_line_of : CpuNo → Step → Bool
is_line_of cpu (CpuStep other line) = other.0 == cpu.0
is_line_of cpu (ToolStep line) = false
is_line_of cpu (SeenStep ring place) = false

-- Given steps lead to a machine: their lines keep the limits of a script and are at most 16,384, the machine knows how
-- many of them each processor did, its world has the script's hardware and agrees with the steps' record, and its ends
-- have the accounts of the record's rings.
pub record IsLedBy (s : Scripted) (steps : List Step) (m : Kept) : Type 0 where
  pub within : All (IsLineWithin (limits_of s)) steps
  pub few : count_by is_line steps ≤ 16384
  pub cpus : (cpu : CpuNo) → slice_index_or m.cpus cpu.0 0 ≡ count_by (is_line_of cpu) steps
  pub hardware : m.world.hardware ≡ hardware_of s
  pub agrees : AgreesWith m.world (record_by s steps)
  pub ends : HaveAccounts m.outs (record_by s steps).rings

-- Another line may be given after these steps: there were fewer than 16,384 lines, and it keeps the script's limits.
pub record IsNext (s : Scripted) (steps : List Step) (m : Kept) (x : Step) : Type 0 where
  pub led : IsLedBy s steps m
  pub few : count_by is_line steps < 16384
  pub within : IsLineWithin (limits_of s) x

-- A line may be given to a machine, by some script and some steps that lead there.
pub record Takes (m : Kept) (x : Step) : Type 0 where
  pub script : Scripted
  pub steps : List Step
  pub sound : IsScript script
  pub covered : IsCovered script
  pub next : IsNext script steps m x

-- So may a line that is given to a machine without rings: there is no end that its records could go to.
pub record TakesAlone (m : Kept) (x : Step) : Type 0 where
  pub takes : Takes m x
  pub no_rings : takes.script.rings ≡ []

-- This is the reply to a step after the given steps before it.
abbrev pub IsReplyAfter : Scripted → List Step → Step → Reply → Type 0
IsReplyAfter s steps x reply = AreReplies (hardware_of s) (opening_stage s) (lost_count (hardware_of s) (opening_stage s) s.rings) steps (x ∷ []) (reply ∷ [])

-- Where acts of a script lead to a machine, the lines that they do lead there as given lines.
abbrev pub LedByActsLaw : Type 0
LedByActsLaw = (s : Scripted) (acts : List Act) (m : Kept) → IsScript s → LeadTo s acts m → IsLedBy s (history s acts) m

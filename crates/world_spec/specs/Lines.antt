-- inner
-- What a line answers before any processor is rescheduled: what it is refused for, or what it has made of the world and
-- which processors it touches. After the system calls of kernel/events/core.c, whose changes ctx_resched follows; the
-- relation is this project's own profile.
use Rattle.std.specs.Prelude.{◌≡◌, ◌<◌, ◌↔◌, true, length, None, Some, Result, Ok, Err}
use Rattle.perf_base.specs.{Cpus.{HasCpu}, declared.{numbers.{CpuNo.{CpuNo}, CpuSet.{CpuSet}, Key.{Key}}, reasons.Reason.{Reason}}}
use Rattle.perf_base.specs.declared.standing.Context.TheVariants as context
use Rattle.stage_spec.specs.History.{Step}
use Rattle.stage_laws.specs.Narrowing.{changed, touches}
use Rattle.world_spec.specs.{Quiet.{step_refusal}, Rescheduled.{AreUntouchedOutside}, Stepping.{HasBecome}, StageOf.{stage_of}}
use Rattle.world_spec.specs.Value.{World, is_live, entry_at}

-- each event that counts a processor counts one that the machine has
abbrev pub AreAtHome : World → Type 0
AreAtHome w = (k : Key) (cpu : CpuNo) → is_live w k ≡ true → (entry_at w k).context ≡ context.Processor cpu → cpu.0 < length w.quiet.running

-- A line that is accepted has made its own change, and nothing is settled yet. The processors of the set are those that
-- it touches; the others stand as they stood.
pub record HasChanged (x : Step) (w after : World) (set : CpuSet) : Type 0 where
  pub accepted : step_refusal w.hardware w x ≡ None
  pub made : HasBecome w.hardware (changed w.hardware (stage_of w) x) w after x
  pub hardware : after.hardware ≡ w.hardware
  pub running : length after.quiet.running ≡ length w.quiet.running
  pub totals : after.quiet.totals ≡ w.quiet.totals
  pub homes : AreAtHome w → AreAtHome after
  pub touched : (cpu : CpuNo) → cpu.0 < length w.quiet.running → (HasCpu set cpu ↔ (touches w.hardware (stage_of w) x cpu ≡ true))
  pub within : (cpu : CpuNo) → HasCpu set cpu → cpu.0 < length w.quiet.running
  pub others : AreUntouchedOutside set w after

-- A line that is refused leaves the world.
pub record IsRefused (x : Step) (w after : World) (reason : Reason) : Type 0 where
  pub refused : step_refusal w.hardware w x ≡ Some reason
  pub same : after ≡ w

abbrev pub IsAnswered : Step → (w after : World) → Result CpuSet Reason → Type 0
IsAnswered x w after (Ok set) = HasChanged x w after set
IsAnswered x w after (Err reason) = IsRefused x w after reason

-- inner
-- What a machine's world keeps between lines, and what it is to have done a line. This project's own profile.
use Rattle.std.specs.Prelude.{◌≡◌, ℕ, ◌<◌, Bool, true, false, List, [], length, map}
use Rattle.perf_base.specs.declared.{numbers.{CpuNo.{CpuNo}, Key.{Key}}, reply.Reply.{Reply}}
use Rattle.perf_base.specs.declared.reply.Reply.TheVariants as reply
use Rattle.perf_base.specs.declared.standing.Context.TheVariants as context
use Rattle.perf_base.specs.declared.lines.ToolLine.{ToolLine}
use Rattle.perf_base.specs.declared.lines.ToolLine.TheVariants as tool_line
use Rattle.stage_spec.specs.{History.{Step, CpuStep, ToolStep, SeenStep}, Limits.{Limits, IsMachine}, Stage.{Stage}}
use Rattle.stage_laws.specs.Sound.{IsSound}
use Rattle.ring_spec.specs.Running.{Running, IsAnswerBy, record_after}
use Rattle.world_spec.specs.{Agreement.{AgreesWith}, Rescheduled.{AreRescheduled}, StageOf.{stage_of}, Value.{World, is_live, entry_at}}
use Rattle.sample_ring.specs.RingLists.{OutList}
use Rattle.work_account.specs.Ends.{HaveAccounts}
use Rattle.machine.specs.Counted.{is_idle_line}

-- the limits of a world none of whose lines speaks of a ring
abbrev pub limits_in : World → Limits
limits_in w = record { cpus = length w.quiet.running; kinds = length w.hardware.kind_pmus; rings = [] }

-- Between lines the stage is sound, each processor stands as rescheduling leaves it, and each event that counts a
-- processor counts one that the machine has.
pub record IsReady (w : World) : Type 0 where
  pub machine : IsMachine (limits_in w) w.hardware
  pub sound : IsSound w.hardware (stage_of w)
  pub rescheduled : AreRescheduled w.hardware w
  pub homes : (k : Key) (cpu : CpuNo) → is_live w k ≡ true → (entry_at w k).context ≡ context.Processor cpu → cpu.0 < length w.quiet.running

-- A line is done: whatever record the world agreed with, the answer is the one by that record, and the world agrees
-- with the record after the line.
pub record IsDoneBy (x : Step) (w after : World) (reply : Reply) (r : Running) : Type 0 where
  pub answer : IsAnswerBy w.hardware r x reply
  pub agrees : AgreesWith after (record_after w.hardware r x)

abbrev pub IsDone : Step → World → World → Reply → Type 0
IsDone x w after reply = (r : Running) → AgreesWith w r → IsDoneBy x w after reply r

-- A line that may send records: whatever record the world agreed with, whose rings' accounts the ends had, they have
-- the accounts of its rings after the line.
pub record IsDoneSending (x : Step) (w after : World) (sent : OutList) (reply : Reply) (r : Running) : Type 0 where
  pub done : IsDoneBy x w after reply r
  pub ends : HaveAccounts sent (record_after w.hardware r x).rings

abbrev pub IsDoneWith : Step → (w after : World) → (outs sent : OutList) → Reply → Type 0
IsDoneWith x w after outs sent reply = (r : Running) → AgreesWith w r → HaveAccounts outs r.rings → IsDoneSending x w after sent reply r

-- A refused line leaves what it might have changed as it was, as one value.
abbrev pub StaysIfRefused : {X : Type 0} → (before after : X) → Reply → Type 0
StaysIfRefused before after (reply.Refused reason) = after ≡ before
StaysIfRefused before after _ = Unit {0}

-- A line that changes nothing: a switch to what runs there already, and what a tool asks.
abbrev pub asks : ToolLine → Bool
asks (tool_line.Read event size) = true
asks (tool_line.Why event) = true
asks (tool_line.Seats cpu) = true
asks _ = false

abbrev pub changes_nothing : Stage → Step → Bool
changes_nothing s (CpuStep cpu line) = is_idle_line s cpu line
changes_nothing s (ToolStep line) = asks line
changes_nothing s (SeenStep ring place) = false

-- Such a line leaves the world as it was, as one value.
abbrev pub StaysIfIdle : Step → (w after : World) → Type 0
StaysIfIdle x w after = changes_nothing (stage_of w) x ≡ true → after ≡ w

-- what each end that sends knows of its reader: the last tail that it has seen, and how often it looked
abbrev pub seen_of : OutList → List (ℕ × ℕ)
seen_of outs = map (λ o. (o.producer.last_tail, o.producer.loads)) outs.outs

-- inner
-- When a line of a tool is answered, and when it is done. This project's own profile.
use Rattle.std.specs.Prelude.{◌≡◌, ℕ, true, false, Result}
use Rattle.perf_base.specs.declared.{lines.ToolLine.{ToolLine}, numbers.CpuSet.{CpuSet}, reasons.Reason.{Reason}, reply.Reply.{Reply}}
use Rattle.stage_spec.specs.History.{ToolStep}
use Rattle.world_spec.specs.{Kept.{IsKept}, Lines.{IsAnswered}, Value.{World}}
use Rattle.machine.specs.{declared.given.Answer.{Answer}, Counted.{IsCounted}, Room.{IsLineFor}, Stepped.{IsReady, IsDone, StaysIfRefused, asks}}
use Rattle.machine.specs.declared.given.Answer.TheVariants as answer

-- A line of a tool is done, from one count of tests to another. The world is ready for the next line. One that is
-- refused or asks leaves it; none changes the machine and what has run on each processor.
pub record IsToolDone (l : ToolLine) (w after : World) (reply : Reply) (before now : ℕ) : Type 0 where
  pub ready : IsReady after
  pub done : IsDone (ToolStep l) w after reply
  pub same : StaysIfRefused w after reply
  pub idle : asks l ≡ true → after ≡ w
  pub hardware : after.hardware ≡ w.hardware
  pub totals : after.quiet.totals ≡ w.quiet.totals
  pub counted : IsCounted (ToolStep l) w after before now

-- A line that changes something has made its change, or is refused.
pub record HasMade (l : ToolLine) (w after : World) (made : Result CpuSet Reason) : Type 0 where
  pub changes : asks l ≡ false
  pub answered : IsAnswered (ToolStep l) w after made

-- A line that asks is done, with no test; another one has made its change.
abbrev pub IsToolAnswer : ToolLine → (w after : World) → Answer → Type 0
IsToolAnswer l w after (answer.Told reply) = (n : ℕ) → IsToolDone l w after reply n n
IsToolAnswer l w after (answer.Made made) = HasMade l w after made

-- where a line that changes something may be done
pub record MayChange (l : ToolLine) (w : World) : Type 0 where
  pub kept : IsKept w.hardware w
  pub ready : IsReady w
  pub within : IsLineFor w l
  pub changes : asks l ≡ false

-- inner
-- What a sheet holds: maybe a brief, whether that is planned, and then the seats of its plan. This project's own
-- profile.
use Rattle.std.specs.Prelude.{◌≡◌, Bool, true, Option, Some, None, if◌then◌else◌}
use Rattle.counter_match.specs.Seating.{Seated}
use Rattle.cpu_sched.specs.Briefs.{ProcessorBrief}

pub record Held : Type 0 where
  pub brief : Option ProcessorBrief
  pub planned : Bool
  pub seats : Option Seated

abbrev pub brief_if : Bool → ProcessorBrief → Option ProcessorBrief
brief_if filled b = if filled then Some b else None

abbrev pub seats_if : Bool → Seated → Option Seated
seats_if planned seats = if planned then Some seats else None

-- It holds that brief with its plan.
pub record IsPlannedFor (b : ProcessorBrief) (sheet : Held) : Type 0 where
  pub planned : sheet.planned ≡ true
  pub brief : sheet.brief ≡ Some b

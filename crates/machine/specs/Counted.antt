-- inner
-- How many tests of counters a line takes. After ctx_resched of kernel/events/core.c; the bounds are this project's own
-- profile.
use Rattle.std.specs.{Prelude.{◌≡◌, ℕ, ◌+◌, ◌*◌, ◌≤◌, Bool, false, not, ◌&&◌, All, List, filter, length, Option, Some, None}, List.{sum_by}}
use Rattle.perf_base.specs.declared.{lines.CpuLine.{CpuLine}, numbers.CpuNo.{CpuNo}}
use Rattle.perf_base.specs.declared.lines.CpuLine.TheVariants as line
use Rattle.stage_spec.specs.{Hardware.{Hardware}, History.{Step, CpuStep, ToolStep, SeenStep}, Replies.{seated}, Stage.{Stage, all_cpus, task_on}}
use Rattle.stage_spec.specs.Switching.{is_running}
use Rattle.stage_laws.specs.Narrowing.{changed, touches}
use Rattle.counter_match.specs.Seating.{Seated}
use Rattle.world_spec.specs.{StageOf.{stage_of}, Value.{World, seats_at}}
use Rattle.cpu_sched.specs.{After.{after_brief}, Briefs.{ProcessorBrief}, Sheets.{Held, IsPlannedFor}, Tried.{tried}}

-- Some processors of a stage are rescheduled, which leads to another stage: at least one test for each hardware event
-- that is on there then, and at most 272 for each event that counters are tried for.
pub record AreCounted (hw : Hardware) (s after : Stage) (cpus : List CpuNo) (before now : ℕ) : Type 0 where
  pub least : before + sum_by (λ cpu. length (seated hw after cpu)) cpus ≤ now
  pub most : now ≤ before + 272 * sum_by (tried hw s) cpus

-- a switch to what runs there already reschedules nobody
abbrev pub is_idle_line : Stage → CpuNo → CpuLine → Bool
is_idle_line s cpu (line.Switch to) = is_running (task_on s cpu) to
is_idle_line s cpu _ = false

abbrev pub is_idle : Stage → Step → Bool
is_idle s (CpuStep cpu line) = is_idle_line s cpu line
is_idle s (ToolStep line) = false
is_idle s (SeenStep ring place) = false

-- the processors that a line reschedules
abbrev pub rescheduled_by : Hardware → Stage → Step → List CpuNo
rescheduled_by hw s x = filter (λ cpu. not (is_idle s x) && touches hw s x cpu) (all_cpus s)

-- A line takes the tests of rescheduling these processors once its own change is made. One that reschedules none takes
-- none.
abbrev pub IsCounted : Step → (w after : World) → (before now : ℕ) → Type 0
IsCounted x w after before now = AreCounted w.hardware (changed w.hardware (stage_of w) x) (stage_of after) (rescheduled_by w.hardware (stage_of w) x) before now

-- There is a sheet, and it holds that brief with its plan.
abbrev pub IsServedBy : Option Held → ProcessorBrief → Type 0
IsServedBy None b = ⊥
IsServedBy (Some sheet) b = IsPlannedFor b sheet

-- A line's sheet serves: it holds the plan of the brief that the line's own change leads to. No sheet serves a line of
-- a tool.
abbrev pub Serves : Option Held → World → Step → Type 0
Serves sheet w (CpuStep cpu line) = IsServedBy sheet (after_brief w cpu line)
Serves sheet w (ToolStep line) = ⊥
Serves sheet w (SeenStep ring place) = ⊥

-- the seats of a sheet's plan, if there is a sheet and it is planned
abbrev pub seats_of : Option Held → Option Seated
seats_of None = None
seats_of (Some sheet) = sheet.seats

-- Some processors of a stage are rescheduled, by a sheet where that serves: then no counter is tested, and their seats
-- are those of its plan.
pub record AreCountedUnless (served : Type 0) (plan : Option Seated) (hw : Hardware) (s after : Stage) (at : CpuNo → Seated) (cpus : List CpuNo) (before now : ℕ) : Type 0 where
  pub free : served → now ≡ before
  pub seats : served → (planned : Seated) → plan ≡ Some planned → All (λ cpu. at cpu ≡ planned) cpus
  pub least : (served → ⊥) → before + sum_by (λ cpu. length (seated hw after cpu)) cpus ≤ now
  pub most : now ≤ before + 272 * sum_by (tried hw s) cpus

-- A line with a sheet takes none where the sheet serves, and seats as planned; else it takes as many as without it.
abbrev pub IsCountedBy : Option Held → Step → (w after : World) → (before now : ℕ) → Type 0
IsCountedBy sheet x w after before now =
    AreCountedUnless (Serves sheet w x) (seats_of sheet) w.hardware (changed w.hardware (stage_of w) x) (stage_of after) (seats_at after) (rescheduled_by w.hardware (stage_of w) x) before now

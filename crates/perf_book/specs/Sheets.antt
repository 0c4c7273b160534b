-- inner
-- What becomes of the sheet that an actor brings to its line. This project's own profile.
use Rattle.std.specs.Prelude.{◌≡◌, ◌⊎◌, Bool, true, false, ⊤, Option, Some, None}
use Rattle.perf_base.specs.{Scripts.{Scripted}, declared.acts.Actor.{Actor}}
use Rattle.perf_base.specs.declared.acts.Actor.TheVariants as actor
use Rattle.perf_base.specs.declared.lines.CpuLine.TheVariants as cpu_line
use Rattle.stage_spec.specs.History.{Step, CpuStep, ToolStep, SeenStep}
use Rattle.cpu_sched.specs.Sheets.{Held}
use Rattle.machine.specs.{Leading.{Kept}, Prepared.{prepared}}

-- it is blank, or its brief is planned
abbrev pub IsReady : Held → Type 0
IsReady sheet = (sheet.brief ≡ None) ⊎ (sheet.planned ≡ true)

-- A processor brings such a sheet. A tool's is not looked at.
abbrev pub MayBring : Actor → Held → Type 0
MayBring (actor.Processor cpu) sheet = IsReady sheet
MayBring (actor.Tool tool) sheet = ⊤
MayBring (actor.Reader ring) sheet = ⊤
MayBring actor.Watcher sheet = ⊤

-- After its line a processor's sheet holds the brief of its next one, not planned, or is blank where there is none. A
-- tool's is as it was.
abbrev pub sheet_after : Scripted → Kept → Actor → Held → Held
sheet_after s m (actor.Processor cpu) sheet = prepared s m cpu
sheet_after s m (actor.Tool tool) sheet = sheet
sheet_after s m (actor.Reader ring) sheet = sheet
sheet_after s m actor.Watcher sheet = sheet

-- whether a line may go by a plan: it is a processor's, and not work, which tests no counter in any case
abbrev pub goes_by_plan : Option Step → Bool
goes_by_plan (Some (CpuStep cpu (cpu_line.Switch to))) = true
goes_by_plan (Some (CpuStep cpu (cpu_line.Work work))) = false
goes_by_plan (Some (CpuStep cpu cpu_line.Tick)) = true
goes_by_plan (Some (CpuStep cpu (cpu_line.Fork child))) = true
goes_by_plan (Some (CpuStep cpu cpu_line.Exit)) = true
goes_by_plan (Some (ToolStep line)) = false
goes_by_plan (Some (SeenStep ring place)) = false
goes_by_plan None = false

-- inner
-- Which processors a line can touch, and that only those have to be settled after it. After the calls of ctx_resched in
-- kernel/events/core.c; the definitions settle every processor.
use Rattle.std.specs.{Prelude.{◌≡◌, ◌≢◌, ◌<◌, ◌==◌, Bool, false, All, List, [], ◌∷◌, filter, length, Option, Some, None}, List.{list_any}}
use Rattle.perf_base.specs.declared.{numbers.{CpuNo.{CpuNo}, EventNo.{EventNo}, TaskNo.{TaskNo}}, lines.{CpuLine.{CpuLine}, ToolLine.{ToolLine}}}
use Rattle.perf_base.specs.{declared.{standing.Context.{Context}, reasons.Reason.{Reason}}, Contexts.{context_of}}
use Rattle.perf_base.specs.declared.lines.CpuLine.TheVariants as cpu_line
use Rattle.perf_base.specs.declared.lines.ToolLine.TheVariants as tool_line
use Rattle.perf_base.specs.declared.standing.Context.TheVariants as context
use Rattle.stage_spec.specs.{Hardware.{Hardware}, Stage.{Stage, all_cpus, is_on_cpu, first_stage}, Verdict.{passes, reached}}
use Rattle.stage_spec.specs.{Settle.{settle, settle_each, IsSettled}, Commands.{targets, is_reached}}
use Rattle.stage_spec.specs.History.{Step, CpuStep, ToolStep, SeenStep, cpu_refusal, tool_refusal, cpu_changed, tool_changed, stage_step, stage_after}
use Rattle.stage_spec.specs.Limits.{Limits, IsMachine, IsWithin, AreTaskNumbers}
use Rattle.stage_laws.specs.{Sound.{IsSound}, Standings.{standings}}

-- every processor is settled
abbrev pub AreSettled : Hardware → Stage → Type 0
AreSettled hw s = (cpu : CpuNo) → cpu.0 < length s.running → IsSettled hw cpu s

-- whether a context is one of a processor's two: its own, and that of the task on it
abbrev pub has_context : Stage → CpuNo → Context → Bool
has_context s cpu (context.Processor other) = other.0 == cpu.0
has_context s cpu (context.Task task) = is_on_cpu s task cpu

-- whether a processor reaches an instance of some families
abbrev pub reaches : Stage → List EventNo → CpuNo → Bool
reaches s events cpu = list_any (is_reached events) (reached s cpu)

-- Which processors a line that is not refused touches: an open those that have the new event's context; enable, disable
-- and close those that reach a family named; a switch, a tick and an exit their own; all other lines none.
abbrev pub tool_touches : Stage → ToolLine → CpuNo → Bool
tool_touches s (tool_line.Open slot attr leader) cpu = has_context s cpu (context_of attr)
tool_touches s (tool_line.Enable event group) cpu = reaches s (targets s event group) cpu
tool_touches s (tool_line.Disable event group) cpu = reaches s (targets s event group) cpu
tool_touches s (tool_line.Close event) cpu = reaches s (event ∷ []) cpu
tool_touches s _ cpu = false

abbrev pub cpu_touches : CpuNo → CpuLine → CpuNo → Bool
cpu_touches own (cpu_line.Switch to) cpu = own.0 == cpu.0
cpu_touches own (cpu_line.Work w) cpu = false
cpu_touches own cpu_line.Tick cpu = own.0 == cpu.0
cpu_touches own (cpu_line.Fork child) cpu = false
cpu_touches own cpu_line.Exit cpu = own.0 == cpu.0

-- a refused line touches none, and so does a look at a ring
abbrev pub unless_no : Option Reason → Bool → Bool
unless_no (Some r) touched = false
unless_no None touched = touched

abbrev pub touches : Hardware → Stage → Step → CpuNo → Bool
touches hw s (CpuStep own line) cpu = unless_no (cpu_refusal s own line) (cpu_touches own line cpu)
touches hw s (ToolStep line) cpu = unless_no (tool_refusal hw s line) (tool_touches s line cpu)
touches hw s (SeenStep ring place) cpu = false

-- what a step makes of the stage before anything is settled
abbrev pub unless_left : Option Reason → (Stage → Stage) → Stage → Stage
unless_left (Some r) change s = s
unless_left None change s = change s

abbrev pub changed : Hardware → Stage → Step → Stage
changed hw s (CpuStep cpu line) = unless_left (cpu_refusal s cpu line) (cpu_changed hw cpu line) s
changed hw s (ToolStep line) = unless_left (tool_refusal hw s line) (tool_changed line) s
changed hw s (SeenStep ring place) = s

-- A step keeps a stage sound on the way too: its change does, before anything is settled, and so does settling one
-- processor.
abbrev pub ChangedSoundLaw : Type 0
ChangedSoundLaw = (l : Limits) (hw : Hardware) (s : Stage) (x : Step) → IsMachine l hw → IsWithin l x → IsSound hw s
    → IsSound hw (changed hw s x)

abbrev pub SettleSoundLaw : Type 0
SettleSoundLaw = (hw : Hardware) (cpu : CpuNo) (s : Stage) → IsSound hw s → IsSound hw (settle hw cpu s)

-- Settling a processor leaves all that another one reaches.
abbrev pub SettleOthersLaw : Type 0
SettleOthersLaw = (hw : Hardware) (s : Stage) (cpu other : CpuNo) → IsSound hw s → cpu.0 < length s.running → other.0 < length s.running
    → cpu.0 ≢ other.0 → passes (settle hw cpu s) other ≡ passes s other

-- Every stage that lines lead to is settled.
abbrev pub ReachedSettledLaw : Type 0
ReachedSettledLaw = (l : Limits) (hw : Hardware) (declared : List TaskNo) (steps : List Step) → IsMachine l hw → AreTaskNumbers declared
    → All (IsWithin l) steps → AreSettled hw (stage_after hw (first_stage l.cpus declared) steps)

-- The law of narrowing: after a step that comes at a settled stage, only the processors that it touches have to be
-- settled, every processor is settled then, and those that it does not touch have the standings that they had.
pub record IsNarrow (hw : Hardware) (s : Stage) (x : Step) : Type 0 where
  pub stage : stage_step hw s x ≡ settle_each hw (filter (touches hw s x) (all_cpus s)) (changed hw s x)
  pub settled : AreSettled hw (stage_step hw s x)
  pub others : (cpu : CpuNo) → cpu.0 < length s.running → touches hw s x cpu ≡ false → standings hw (stage_step hw s x) cpu ≡ standings hw s cpu

abbrev pub NarrowLaw : Type 0
NarrowLaw = (l : Limits) (hw : Hardware) (s : Stage) (x : Step) → IsMachine l hw → IsWithin l x → IsSound hw s → AreSettled hw s → IsNarrow hw s x

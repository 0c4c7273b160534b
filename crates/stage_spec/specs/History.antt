-- believed
-- The lines that were done, and the stage that they leave. This project's own profile, after the calls of
-- perf_event_open(2), the scheduler's calls of kernel/events/core.c, and its tick.
use Rattle.std.specs.Prelude.{ℕ, List, [], ◌∷◌, ◌++◌, Option, Some, None}
use Rattle.perf_base.specs.FlatMaps.{flat_map_after}
use Rattle.perf_base.specs.declared.{numbers.{CpuNo.{CpuNo}, RingNo.{RingNo}}, lines.{CpuLine.{CpuLine}, ToolLine.{ToolLine}}, acts.Act.{Act}}
use Rattle.perf_base.specs.{declared.reasons.Reason.{Reason}, Scripts.{Scripted}}
use Rattle.perf_base.specs.declared.lines.CpuLine.TheVariants as cpu_line
use Rattle.perf_base.specs.declared.lines.ToolLine.TheVariants as tool_line
use Rattle.perf_base.specs.declared.acts.Act.TheVariants as act
use Rattle.stage_spec.specs.{Order.{next_of_cpu, next_of_tool}, Hardware.{Hardware}, Stage.{Stage, first_stage}, Settle.{settle_all}}
use Rattle.stage_spec.specs.Opening.{open_refusal, opened}
use Rattle.stage_spec.specs.Commands.{closed_refusal, period_refusal, command_each, enabled, disabled, targets, with_period}
use Rattle.stage_spec.specs.{Mapping.{map_refusal, output_refusal, mapped_to, output_to}, Closing.{closed}, Switching.{switch_refusal, switched}}
use Rattle.stage_spec.specs.{Rotation.{rotated}, Forks.{fork_refusal, forked}, Exits.{exit_refusal, exited}, Reading.{read_refusal}}

-- one step: a line of a processor or of a tool, or a look at the tail of a ring, which was seen at some place
pub data Step : Type 0 where
  CpuStep : (cpu : CpuNo) (line : CpuLine) → Step
  ToolStep : (line : ToolLine) → Step
  SeenStep : (ring : RingNo) (place : ℕ) → Step

-- for what a line is refused
abbrev pub cpu_refusal : Stage → CpuNo → CpuLine → Option Reason
cpu_refusal s cpu (cpu_line.Switch to) = switch_refusal s cpu to
cpu_refusal s cpu (cpu_line.Work w) = None
cpu_refusal s cpu cpu_line.Tick = None
cpu_refusal s cpu (cpu_line.Fork child) = fork_refusal s cpu child
cpu_refusal s cpu cpu_line.Exit = exit_refusal s cpu

abbrev pub tool_refusal : Hardware → Stage → ToolLine → Option Reason
tool_refusal hw s (tool_line.Open slot attr leader) = open_refusal hw s slot attr leader
tool_refusal hw s (tool_line.Enable event group) = closed_refusal s event
tool_refusal hw s (tool_line.Disable event group) = closed_refusal s event
tool_refusal hw s (tool_line.Reset event group) = closed_refusal s event
tool_refusal hw s (tool_line.Period event period) = period_refusal s event period
tool_refusal hw s (tool_line.Read event size) = read_refusal s event size
tool_refusal hw s (tool_line.Map event ring) = map_refusal s event ring
tool_refusal hw s (tool_line.Output event target) = output_refusal s event target
tool_refusal hw s (tool_line.Close event) = closed_refusal s event
tool_refusal hw s (tool_line.Why event) = closed_refusal s event
tool_refusal hw s (tool_line.Seats cpu) = None

-- what a line that is not refused makes of the stage
abbrev pub cpu_changed : Hardware → CpuNo → CpuLine → Stage → Stage
cpu_changed hw cpu (cpu_line.Switch to) s = switched cpu to s
cpu_changed hw cpu (cpu_line.Work w) s = s
cpu_changed hw cpu cpu_line.Tick s = rotated hw cpu s
cpu_changed hw cpu (cpu_line.Fork child) s = forked cpu child s
cpu_changed hw cpu cpu_line.Exit s = exited cpu s

abbrev pub tool_changed : ToolLine → Stage → Stage
tool_changed (tool_line.Open slot attr leader) s = opened s slot attr leader
tool_changed (tool_line.Enable event group) s = command_each enabled (targets s event group) s
tool_changed (tool_line.Disable event group) s = command_each disabled (targets s event group) s
tool_changed (tool_line.Reset event group) s = s
tool_changed (tool_line.Period event period) s = with_period event period s
tool_changed (tool_line.Read event size) s = s
tool_changed (tool_line.Map event ring) s = mapped_to event ring s
tool_changed (tool_line.Output event target) s = output_to event target s
tool_changed (tool_line.Close event) s = closed event s
tool_changed (tool_line.Why event) s = s
tool_changed (tool_line.Seats cpu) s = s

-- The stage after a step. A refused line leaves it, and so does a look at a ring; every other line changes it, and then
-- each processor is settled.
abbrev pub unless_refused : Hardware → Option Reason → (Stage → Stage) → Stage → Stage
unless_refused hw (Some r) change s = s
unless_refused hw None change s = settle_all hw (change s)

unfoldable pub stage_step : Hardware → Stage → Step → Stage
stage_step hw s (CpuStep cpu line) = unless_refused hw (cpu_refusal s cpu line) (cpu_changed hw cpu line) s
stage_step hw s (ToolStep line) = unless_refused hw (tool_refusal hw s line) (tool_changed line) s
stage_step hw s (SeenStep ring place) = s

-- the stage after some steps
unfoldable pub stage_after : Hardware → Stage → List Step → Stage
stage_after hw s [] = s
stage_after hw s (x ∷ steps) = stage_after hw (stage_step hw s x) steps

-- the step of an act after the acts before it; none where its actor has no line left
abbrev pub cpu_steps : CpuNo → Option CpuLine → List Step
cpu_steps cpu None = []
cpu_steps cpu (Some line) = CpuStep cpu line ∷ []

abbrev pub tool_steps : Option ToolLine → List Step
tool_steps None = []
tool_steps (Some line) = ToolStep line ∷ []

abbrev pub steps_of : Scripted → List Act → Act → List Step
steps_of s before (act.Processor cpu) = cpu_steps cpu (next_of_cpu s before cpu)
steps_of s before (act.Tool tool) = tool_steps (next_of_tool s before tool)
steps_of s before (act.Seen ring place) = SeenStep ring place ∷ []

-- the steps of acts, the first of them after some acts
unfoldable pub steps_from : Scripted → List Act → List Act → List Step
steps_from s before acts = flat_map_after (steps_of s) before acts

-- the steps of an order of a script, and the stage before them
abbrev pub history : Scripted → List Act → List Step
history s order = steps_from s [] order

abbrev pub opening_stage : Scripted → Stage
opening_stage s = first_stage s.cpus s.tasks

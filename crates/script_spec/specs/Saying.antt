-- inner
-- What one form more adds to the script that the forms before it say. This project's own profile.
use Rattle.std.specs.Prelude.{◌≡◌, ℕ, ◌<◌, List, [], ◌∷◌, ◌++◌, Option, Some, None, IfSome}
use Rattle.perf_base.specs.declared.lines.{CpuLine.{CpuLine}, ToolLine.{ToolLine}}
use Rattle.perf_base.specs.Scripts.{Scripted, with_pmu, with_kind, with_task, with_ring, with_cpu_line, with_tool_line, with_reader}
use Rattle.script_spec.specs.{Forms.{Form}, Meaning.{processors_in, tools_in, last_of, cpu_line_of, tool_line_of, script_of}}
use Rattle.script_spec.specs.Forms as form

abbrev pub on_cpu : Scripted → Option ℕ → CpuLine → Scripted
on_cpu s None line = s
on_cpu s (Some p) line = with_cpu_line s (record { 0 = p }) line

abbrev pub on_tool : Scripted → Option ℕ → Option ToolLine → Scripted
on_tool s None line = s
on_tool s (Some t) None = s
on_tool s (Some t) (Some line) = with_tool_line s (record { 0 = t }) line

-- the script with what a form says, under this processor and this tool
abbrev pub said_by : Scripted → Option ℕ → Option ℕ → Form → Scripted
said_by s cpu tool (form.Perf version) = s
said_by s cpu tool (form.Machine cpus counters) = s
said_by s cpu tool (form.MachineOfPmus cpus) = s
said_by s cpu tool (form.Pmu number counters cpus) = with_pmu s (record { counters = counters; cpus = record { 0 = cpus } })
said_by s cpu tool (form.Kind name mask) = with_kind s (record { name = name; pmu = 0; mask = mask })
said_by s cpu tool (form.KindOfPmu name pmu mask) = with_kind s (record { name = name; pmu = pmu; mask = mask })
said_by s cpu tool (form.Task number) = with_task s (record { 0 = number })
said_by s cpu tool (form.Ring number bytes) = with_ring s (record { 0 = number }, bytes)
said_by s cpu tool (form.Processor number) = s
said_by s cpu tool (form.OnProcessor line) = on_cpu s cpu (cpu_line_of s.kinds line)
said_by s cpu tool (form.Tool number) = s
said_by s cpu tool (form.OnTool line) = on_tool s tool (tool_line_of s.kinds line)
said_by s cpu tool (form.Reader ring tries batch) = with_reader s (record { ring = record { 0 = ring }; tries = tries; batch = batch })
said_by s cpu tool (form.Order acts) = record s { order = s.order ++ acts }
said_by s cpu tool form.End = s

-- a form behind the version and the machine
abbrev pub IsLater : Form → Type 0
IsLater (form.Perf version) = ⊥
IsLater (form.Machine cpus counters) = ⊥
IsLater (form.MachineOfPmus cpus) = ⊥
IsLater other = Unit {0}

-- With such a form more, forms say the script that they said and what the form says, under the processor and the
-- tool whose headers came last.
abbrev pub GrowingLaw : Type 0
GrowingLaw = (forms : List Form) (f : Form) → IsLater f → IfSome (last_of (processors_in forms)) (λ c. c < 8) → IfSome (last_of (tools_in forms)) (λ t. t < 4)
    → script_of (forms ++ f ∷ []) ≡ said_by (script_of forms) (last_of (processors_in forms)) (last_of (tools_in forms)) f

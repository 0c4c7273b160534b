-- inner
-- The case of the tests: an event is opened behind the plan of a tick. This project's own profile.
use Rattle.std.specs.Prelude.{ℕ, List, [], ◌∷◌, replicate, None, codes}
use Rattle.perf_base.specs.declared.{acts.Act.{Act}, lines.{CpuLine.{CpuLine}, ToolLine.{ToolLine}}, numbers.{CpuNo.{CpuNo}, ToolNo.{ToolNo}}}
use Rattle.perf_base.specs.Scripts.{Scripted}
use Rattle.perf_base.specs.declared.acts.Act.TheVariants as act
use Rattle.perf_base.specs.declared.attr.CpuSel.TheVariants as cpus
use Rattle.perf_base.specs.declared.attr.Kind.TheVariants as kind
use Rattle.perf_base.specs.declared.attr.TaskSel.TheVariants as tasks
use Rattle.perf_base.specs.declared.lines.CpuLine.TheVariants as cpu_line
use Rattle.perf_base.specs.declared.lines.Mode.TheVariants as mode
use Rattle.perf_base.specs.declared.lines.ToolLine.TheVariants as tool_line

abbrev pub cpu : CpuNo
cpu = record { 0 = 0 }

abbrev pub tool : ToolNo
tool = record { 0 = 0 }

-- a stretch of work in which the kind occurs so often, and an event of the kind on the processor, in a slot
abbrev pub stretch : ℕ → CpuLine
stretch occurrences = cpu_line.Work (record { length = 10; mode = mode.User; ip = 0; hits = occurrences ∷ replicate 15 0 })

abbrev pub opening : ℕ → ToolLine
opening slot = tool_line.Open (record { 0 = slot }) (record { kind = kind.Hard 0; task = tasks.All; cpu = cpus.One cpu; period = 0; sample = 0; format = 3; flags = record { 0 = 0 } }) None

-- Three events of a kind share one counter. The processor works, ticks and works.
unfoldable pub shared_counter : Scripted
shared_counter = record {
  cpus = 1;
  pmus = record { counters = 1; cpus = record { 0 = 1 } } ∷ [];
  kinds = record { name = codes "a"; pmu = 0; mask = 1 } ∷ [];
  tasks = [];
  rings = [];
  cpu_lines = (stretch 100 ∷ cpu_line.Tick ∷ stretch 40 ∷ []) ∷ replicate 7 [];
  tool_lines = (opening 0 ∷ opening 1 ∷ opening 2 ∷ []) ∷ replicate 3 [];
  readers = [];
  order = [];
}

-- Two events are opened and the processor works: then the tick is planned. One more is opened; then it ticks.
abbrev pub before_plan : List Act
before_plan = act.Tool tool ∷ act.Tool tool ∷ act.Processor cpu ∷ []

abbrev pub behind_plan : List Act
behind_plan = act.Tool tool ∷ act.Tool tool ∷ act.Processor cpu ∷ act.Tool tool ∷ []

abbrev pub behind_tick : List Act
behind_tick = act.Tool tool ∷ act.Tool tool ∷ act.Processor cpu ∷ act.Tool tool ∷ act.Processor cpu ∷ []

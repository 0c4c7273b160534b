-- believed
-- Whose line an act of an order is. This project's own profile.
use Rattle.std.specs.Prelude.{Bool, false, ◌==◌}
use Rattle.perf_base.specs.declared.{numbers.{CpuNo.{CpuNo}, ToolNo.{ToolNo}}, acts.Act.{Act}}
use Rattle.perf_base.specs.declared.acts.Act.TheVariants as act

-- whether an act is a line of this processor, or of this tool
abbrev pub is_of_cpu : CpuNo → Act → Bool
is_of_cpu cpu (act.Processor p) = p.0 == cpu.0
is_of_cpu cpu (act.Tool t) = false
is_of_cpu cpu (act.Seen ring place) = false

abbrev pub is_of_tool : ToolNo → Act → Bool
is_of_tool tool (act.Processor p) = false
is_of_tool tool (act.Tool t) = t.0 == tool.0
is_of_tool tool (act.Seen ring place) = false

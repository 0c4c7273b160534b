-- inner
-- The calls of a session as a script, whose replay answers them again. This project's own profile.
use Rattle.std.specs.Prelude.{◌≡◌, ◌==◌, ◌≤◌, ℕ, List, [], filter_map, map, Option, Some, None, if◌then◌else◌}
use Rattle.perf_base.specs.{declared.{acts.Act.{Act}, lines.{CpuLine.{CpuLine}, ToolLine.{ToolLine}}, reply.{Answer.{Answer}, Reply.{Reply}}}, Scripts.{Scripted}}
use Rattle.perf_base.specs.declared.acts.Act.TheVariants as act
use Rattle.stage_spec.specs.{Numbers.{numbers_below}, Order.{IsComplete}}
use Rattle.script_spec.specs.Forms.{Version}
use Rattle.report_spec.specs.Answers.{IsAnswered}
use Rattle.given_lines.specs.declared.given.Given.{Given}
use Rattle.given_lines.specs.declared.given.Given.TheVariants as given
use Rattle.live_session.specs.Turns.{AreTurns, Turn}

-- the line of a call, where it is of this processor, or of this tool
abbrev pub cpu_line_by : ℕ → Given × Reply → Option CpuLine
cpu_line_by n (given.Cpu cpu line, reply) = if cpu.0 == n then Some line else None
cpu_line_by n (given.Tool tool line, reply) = None

abbrev pub tool_line_by : ℕ → Given × Reply → Option ToolLine
tool_line_by n (given.Cpu cpu line, reply) = None
tool_line_by n (given.Tool tool line, reply) = if tool.0 == n then Some line else None

-- whose line it is, as an act of an order
abbrev pub act_by : Given × Reply → Act
act_by (given.Cpu cpu line, reply) = act.Processor cpu
act_by (given.Tool tool line, reply) = act.Tool tool

abbrev pub cpu_lines_by : List (Given × Reply) → ℕ → List CpuLine
cpu_lines_by made n = filter_map (cpu_line_by n) made

abbrev pub tool_lines_by : List (Given × Reply) → ℕ → List ToolLine
tool_lines_by made n = filter_map (tool_line_by n) made

-- The script of a head with these lines, and their order.
abbrev pub journal : Scripted → List (Given × Reply) → Scripted
journal s made = record s {
  cpu_lines = map (cpu_lines_by made) (numbers_below 8);
  tool_lines = map (tool_lines_by made) (numbers_below 4);
  order = map act_by made;
}

-- The journal's own order is complete, and is answered by the replies that the session gave.
pub record IsCertified (s : Scripted) (made : List (Given × Reply)) : Type 0 where
  pub complete : IsComplete (journal s made) (map act_by made)
  pub answers : List Answer
  pub answered : IsAnswered (journal s made) (map act_by made) answers
  pub replies : map (λ a. a.reply) answers ≡ map (λ c. c.1) made

-- So it is for each session.
abbrev pub JournalLaw : Type 0
JournalLaw = (s : Scripted) (version : Version) (turns : List Turn) (made : List (Given × Reply)) → s.cpus ≤ 8 → AreTurns s version [] turns made → IsCertified s made

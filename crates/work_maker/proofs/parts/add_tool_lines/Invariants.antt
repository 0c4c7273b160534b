use Rattle.std.proofs.Common.{◌≡◌, take}
use Rattle.work_maker.specs.Building.{with_first_tool_lines}
use Rattle.work_maker.proofs.parts.add_tool_lines.Given as goal

abbrev pub invariant-loop-line : goal.invariant-loop-line
invariant-loop-line l = l.script ≡ with_first_tool_lines l.initial.script (take l.line-index l.lines)

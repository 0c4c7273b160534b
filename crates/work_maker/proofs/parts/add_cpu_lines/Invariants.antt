use Rattle.std.proofs.Common.{◌≡◌, take}
use Rattle.work_maker.specs.Building.{with_cpu_lines}
use Rattle.work_maker.proofs.parts.add_cpu_lines.Given as goal

abbrev pub invariant-loop-line : goal.invariant-loop-line
invariant-loop-line l = l.script ≡ with_cpu_lines l.initial.script l.cpu (take l.line-index l.lines)

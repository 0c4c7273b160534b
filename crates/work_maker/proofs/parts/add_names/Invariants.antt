use Rattle.std.proofs.Common.{◌≡◌}
use Rattle.work_maker.specs.Building.{declared}
use Rattle.work_maker.proofs.parts.add_names.Given as goal

abbrev pub invariant-loop-number : goal.invariant-loop-number
invariant-loop-number l = l.script ≡ declared l.number

use Rattle.std.proofs.Common.{◌≡◌, take}
use Rattle.work_maker.specs.Building.{with_acts}
use Rattle.work_maker.proofs.parts.add_acts.Given as goal

abbrev pub invariant-loop-act : goal.invariant-loop-act
invariant-loop-act l = l.script ≡ with_acts l.initial.script (take l.act-index l.acts)

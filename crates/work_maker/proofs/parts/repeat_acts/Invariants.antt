use Rattle.std.proofs.Common.{◌≡◌}
use Rattle.work_maker.specs.Rounds.{for_each_all}
use Rattle.work_maker.specs.Building.{with_acts}
use Rattle.work_maker.proofs.parts.repeat_acts.Given as goal

abbrev pub invariant-loop-time : goal.invariant-loop-time
invariant-loop-time l = l.script ≡ with_acts l.initial.script (for_each_all l._time (λ time. l.acts))

use Rattle.std.proofs.Common.{◌≡◌, [], ◌++◌}
use Rattle.work_maker.specs.Rounds.{first_lines, last_lines}
use Rattle.work_maker.specs.Building.{so_far}
use Rattle.work_maker.proofs.parts.add_rounds.Given as goal

abbrev pub invariant-loop-round : goal.invariant-loop-round
invariant-loop-round l = l.script ≡ so_far (λ p. l.round) (first_lines ++ last_lines) []

use Rattle.std.proofs.Common.{◌≡◌, [], ◌++◌}
use Rattle.work_maker.specs.Rounds.{first_lines, last_lines}
use Rattle.work_maker.specs.Building.{so_far, rounds_below}
use Rattle.work_maker.proofs.parts.add_round.Given as goal

abbrev pub invariant-loop-cpu : goal.invariant-loop-cpu
invariant-loop-cpu l = l.script ≡ so_far (rounds_below l.round l.cpu) (first_lines ++ last_lines) []

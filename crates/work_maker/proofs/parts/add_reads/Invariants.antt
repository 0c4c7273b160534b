use Rattle.std.proofs.Common.{◌≡◌, [], ◌++◌}
use Rattle.work_maker.specs.Rounds.{for_each, first_lines, read_line}
use Rattle.work_maker.specs.Building.{so_far}
use Rattle.work_maker.proofs.parts.add_reads.Given as goal

abbrev pub invariant-loop-event : goal.invariant-loop-event
invariant-loop-event l = l.script ≡ so_far (λ p. 0) (first_lines ++ for_each l.event read_line) []

use Rattle.std.proofs.Common.{◌≡◌, [], ◌++◌}
use Rattle.work_maker.specs.Rounds.{for_each_all, sampling_lines, counting_lines}
use Rattle.work_maker.specs.Building.{so_far}
use Rattle.work_maker.proofs.parts.add_opens.Given as goal

abbrev pub invariant-loop-cpu : goal.invariant-loop-cpu
invariant-loop-cpu l = l.script ≡ so_far (λ p. 0) (for_each_all l.cpu sampling_lines) []

abbrev pub invariant-loop-task : goal.invariant-loop-task
invariant-loop-task l = l.script ≡ so_far (λ p. 0) (for_each_all 4 sampling_lines ++ for_each_all l.task counting_lines) []

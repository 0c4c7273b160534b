use Rattle.std.proofs.Common.{[], ◌++◌, length, All, sym, ap, subst, arith, ◌∙◌}
use Rattle.perf_base.specs.Scripts.{IsToolLine, line_count}
use Rattle.work_maker.{specs.Rounds.{for_each, for_each_all, made_ring, sampling_lines, counting_lines}, proofs.MadeLines.{sampling_fits}}
use Rattle.work_maker.{specs.Building.{with_first_tool_lines, so_far}, proofs.States.{so_far-count, few_lines, tool_lists-more}}
use Rattle.work_maker.proofs.parts.add_opens.Goals as goal

pub add_tool_lines-requires-clause-lines : goal.add_tool_lines-requires-clause-lines
add_tool_lines-requires-clause-lines c =
    subst (λ s. All (IsToolLine s.cpus (length s.kinds) s.rings) c.sampling_lines.result) (sym c.loop-cpu.invariant)
    (subst (All (IsToolLine 4 4 (for_each 4 made_ring))) (sym c.sampling_lines.ensures) (sampling_fits c.loop-cpu.cpu c.loop-cpu-test.true))

pub add_tool_lines-requires-clause-few : goal.add_tool_lines-requires-clause-few
add_tool_lines-requires-clause-few c =
    omega (
      arith,
      ap line_count c.loop-cpu.invariant,
      so_far-count (λ p. 0) (for_each_all c.loop-cpu.cpu sampling_lines) [],
      few_lines sampling_lines (λ k. omega arith) c.loop-cpu.cpu,
      ap length c.sampling_lines.ensures,
      c.loop-cpu-test.true,
    )

pub loop-cpu-preserved : goal.loop-cpu-preserved
loop-cpu-preserved c =
    let k = c.loop-cpu.cpu in
    c.in_ok-add_tool_lines.ensures
    ∙ ap (λ s. with_first_tool_lines s c.sampling_lines.result) c.loop-cpu.invariant
    ∙ ap (with_first_tool_lines (so_far (λ p. 0) (for_each_all k sampling_lines) [])) c.sampling_lines.ensures
    ∙ tool_lists-more [] sampling_lines k

pub add_tool_lines-requires-in-loop-task-clause-few : goal.add_tool_lines-requires-in-loop-task-clause-few
add_tool_lines-requires-in-loop-task-clause-few c =
    let k = c.loop-task.task in
    omega (
      arith,
      ap line_count c.loop-task.invariant,
      so_far-count (λ p. 0) (for_each_all 4 sampling_lines ++ for_each_all k counting_lines) [],
      few_lines counting_lines (λ k. omega arith) k,
      ap length c.counting_lines.ensures,
      c.loop-task-test.true,
    )

pub loop-task-preserved : goal.loop-task-preserved
loop-task-preserved c =
    let k = c.loop-task.task in
    c.in_ok-add_tool_lines-2.ensures
    ∙ ap (λ s. with_first_tool_lines s c.counting_lines.result) c.loop-task.invariant
    ∙ ap (with_first_tool_lines (so_far (λ p. 0) (for_each_all 4 sampling_lines ++ for_each_all k counting_lines) [])) c.counting_lines.ensures
    ∙ tool_lists-more (for_each_all 4 sampling_lines) counting_lines k

use Rattle.std.proofs.Common.{[], ◌++◌, length, ap, arith, ◌∙◌}
use Rattle.perf_base.specs.Scripts.{line_count}
use Rattle.work_maker.specs.Rounds.{first_lines, last_lines}
use Rattle.work_maker.{specs.Building.{with_cpu_lines, so_far, rounds_below}, proofs.States.{so_far-count, rounds_few, round_more}}
use Rattle.work_maker.proofs.parts.add_round.Goals as goal

pub add_cpu_lines-requires-clause-few : goal.add_cpu_lines-requires-clause-few
add_cpu_lines-requires-clause-few c =
    let n = c.args.round in
    let k = c.loop-cpu.cpu in
    omega (
      arith,
      ap line_count c.loop-cpu.invariant,
      so_far-count (rounds_below n k) (first_lines ++ last_lines) [],
      rounds_few n k 0,
      rounds_few n k 1,
      rounds_few n k 2,
      rounds_few n k 3,
      ap length c.round_lines.ensures,
      c.requires.round,
    )

pub loop-cpu-preserved : goal.loop-cpu-preserved
loop-cpu-preserved c =
    let n = c.args.round in
    let k = c.loop-cpu.cpu in
    c.in_ok-add_cpu_lines.ensures
    ∙ ap (λ s. with_cpu_lines s (record { 0 = k }) c.round_lines.result) c.loop-cpu.invariant
    ∙ ap (with_cpu_lines (so_far (rounds_below n k) (first_lines ++ last_lines) []) (record { 0 = k })) c.round_lines.ensures
    ∙ round_more n k (first_lines ++ last_lines) c.loop-cpu-test.true

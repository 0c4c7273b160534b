use Rattle.std.proofs.{Common.{◌≡◌, [], ◌++◌, ap, arith, ◌∙◌}, lemmas.List.FromFn.{length-map-range_with_len}}
use Rattle.perf_base.specs.Scripts.{line_count, with_tool_line}
use Rattle.work_maker.specs.Rounds.{for_each, first_lines, read_line}
use Rattle.work_maker.{specs.Building.{so_far}, proofs.States.{so_far-count, tool_each-more}}
use Rattle.work_maker.proofs.parts.add_reads.Goals as goal

pub add_tool_line-requires-clause-few : goal.add_tool_line-requires-clause-few
add_tool_line-requires-clause-few c =
    let k = c.loop-event.event in
    omega (arith, ap line_count c.loop-event.invariant, so_far-count (λ p. 0) (first_lines ++ for_each k read_line) [], length-map-range_with_len read_line 0 k, c.loop-event-test.true)

pub loop-event-preserved : goal.loop-event-preserved
loop-event-preserved c =
    let k = c.loop-event.event in
    c.in_ok-add_tool_line.ensures.ok
    ∙ ap (λ s. with_tool_line s (record { 0 = 0 }) (read_line k)) c.loop-event.invariant
    ∙ tool_each-more first_lines read_line k

pub returns : goal.returns
returns c =
    let all : c.loop-event.event ≡ 16 = omega (arith, c.loop-event-test.false) in
    c.loop-event.invariant ∙ ap (λ k. so_far (λ p. 0) (first_lines ++ for_each k read_line) []) all

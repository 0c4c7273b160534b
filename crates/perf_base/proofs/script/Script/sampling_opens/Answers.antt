use Rattle.std.proofs.{Common.{◌≡◌, ◌≤◌, ◌<◌, length, get_or, [], ap, ◌∙◌, arith}, lemmas.List.{take_all, Sums.{sum_by_more, sum_by_more_le}}}
use Rattle.std.specs.Prelude.{sum_by, count_by}
use Rattle.perf_base.{specs.{Scripts.{IsScript}, Weight.{opens_sampling, sampling_opens}}, proofs.Weights.{opens_few}}
use Rattle.perf_base.proofs.script.Script.sampling_opens.Goals.{After-opens_in-opens}
use Rattle.perf_base.proofs.script.Script.sampling_opens.Goals as goal

within : (c : After-opens_in-opens) → c.loop-tool.tool < length c.args.self.now.tool_lines
within c = omega (arith, c.tool_lines.ensures.sound.tools)

read : (c : After-opens_in-opens) → c.opens_in-opens.result ≡ count_by opens_sampling (get_or c.args.self.now.tool_lines c.loop-tool.tool [])
read c = c.opens_in-opens.ensures ∙ ap (count_by opens_sampling) c.tool_lines.ensures.lines

pub overflow_add-opens : goal.overflow_add-opens
overflow_add-opens c =
    let few = sum_by_more_le (count_by opens_sampling) c.args.self.now.tool_lines c.loop-tool.tool [] (within c) in
    let all : sampling_opens c.args.self.now ≤ 16384 = opens_few c.args.self.now c.tool_lines.ensures.sound in
    omega (arith, few, all, read c, c.loop-tool.invariant.sum)

pub loop-tool-preserved : goal.loop-tool-preserved
loop-tool-preserved c =
    let m = sum_by_more (count_by opens_sampling) c.args.self.now.tool_lines c.loop-tool.tool [] (within c) in
    record { sound = λ _. c.tool_lines.ensures.sound; sum = omega (arith, m, read c, c.loop-tool.invariant.sum) }

pub returns-clause-sum : goal.returns-clause-sum
returns-clause-sum c =
    let sound : IsScript c.args.self.now = c.loop-tool.invariant.sound (omega arith) in
    c.loop-tool.invariant.sum ∙ ap (sum_by (count_by opens_sampling)) (take_all c.loop-tool.tool c.args.self.now.tool_lines (omega (arith, sound.tools)))

pub returns-clause-few : goal.returns-clause-few
returns-clause-few c =
    let sound : IsScript c.args.self.now = c.loop-tool.invariant.sound (omega arith) in
    let all : sampling_opens c.args.self.now ≤ 16384 = opens_few c.args.self.now sound in
    omega (arith, all, c.loop-tool.invariant.sum ∙ ap (sum_by (count_by opens_sampling)) (take_all c.loop-tool.tool c.args.self.now.tool_lines (omega (arith, sound.tools))))

use Rattle.std.proofs.{Common.{◌<◌, length, [], ap, ◌∙◌, arith}, lemmas.List.{take_all}}
use Rattle.perf_base.{specs.{Scripts.{IsScript}, Weight.{period_of, least_by}}, proofs.Weights.{least_by_more}}
use Rattle.perf_base.proofs.script.Script.least_period.Goals as goal

pub loop-tool-preserved : goal.loop-tool-preserved
loop-tool-preserved c =
    let lt : c.loop-tool.tool < length c.args.self.now.tool_lines = omega (arith, c.tool_lines.ensures.sound.tools) in
    let m = least_by_more (least_by period_of) c.args.self.now.tool_lines c.loop-tool.tool [] lt in
    record { sound = λ _. c.tool_lines.ensures.sound; least = cc }

pub returns : goal.returns
returns c =
    let sound : IsScript c.args.self.now = c.loop-tool.invariant.sound (omega arith) in
    c.loop-tool.invariant.least ∙ ap (least_by (least_by period_of)) (take_all c.loop-tool.tool c.args.self.now.tool_lines (omega (arith, sound.tools)))

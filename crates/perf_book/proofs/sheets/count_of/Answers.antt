use Rattle.std.proofs.{Common.{◌≡◌, sym, ap, ◌∙◌, [], length, rules, arith}, lemmas.List.{get_or_past}}
use Rattle.perf_base.specs.Scripts.{lines_of_cpu, lines_of_tool}
use Rattle.perf_book.{specs.Plans.{count_of}, proofs.sheets.count_of.Goals.{in-Processor, in-Tool, in_default-2, in_default-3, in_default}}
use Rattle.perf_book.proofs.sheets.count_of.Goals as goal

pub returns : goal.returns
returns c = elim c.match-actor.branch [
  | in-Processor w ↦ search rules
  | in-Tool w ↦ search rules
  | in_default-2 w ↦
      let none : lines_of_cpu c.args.script.now w.in-Processor.cpu ≡ [] =
      get_or_past c.args.script.now.cpu_lines w.in-Processor.cpu.0 [] (omega (arith, w.if-cpu-lt8.false, c.use_invariant.ensures.processors)) in
      w.count-is ∙ sym (ap (count_of c.args.script.now) w.in-Processor.is ∙ ap length none)
  | in_default-3 w ↦
      let none : lines_of_tool c.args.script.now w.in-Tool.tool ≡ [] =
      get_or_past c.args.script.now.tool_lines w.in-Tool.tool.0 [] (omega (arith, w.if-tool-lt4.false, c.use_invariant.ensures.tools)) in
      w.count-is ∙ sym (ap (count_of c.args.script.now) w.in-Tool.is ∙ ap length none)
  | in_default w ↦ search rules
]

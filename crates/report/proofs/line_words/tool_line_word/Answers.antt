use Rattle.std.proofs.Common.{rules}
use Rattle.std.proofs.{Common.{ap, sym, [], slice_get, arith}, lemmas.List.{get_or_past}}
use Rattle.report_spec.specs.Report as text
use Rattle.report.proofs.line_words.tool_line_word.Goals as goal

pub returns-then-tool-ge4 : goal.returns-then-tool-ge4
returns-then-tool-ge4 c =
    ap (λ lines. text.tool_word (slice_get lines c.args.number))
    (sym (get_or_past c.args.script.now.tool_lines c.args.tool.0 [] (omega (arith, c.if-tool-ge4.true, c.use_invariant.ensures.tools))))

pub returns : goal.returns
returns c = search rules

use Rattle.std.proofs.{Common.{ap, sym, [], slice_get, arith}, lemmas.List.{get_or_past}}
use Rattle.report_spec.specs.Report as text
use Rattle.report.proofs.line_words.cpu_line_word.Goals as goal

pub returns-then-cpu-ge8 : goal.returns-then-cpu-ge8
returns-then-cpu-ge8 c =
    ap (λ lines. text.cpu_word (slice_get lines c.args.number))
    (sym (get_or_past c.args.script.now.cpu_lines c.args.cpu.0 [] (omega (arith, c.if-cpu-ge8.true, c.use_invariant.ensures.processors))))

use Rattle.line_input.proofs.EndLines.{end_line-behind}
use Rattle.line_input.proofs.head.has_end_line.Goals as goal

pub returns-then-ends_with : goal.returns-then-ends_with
returns-then-ends_with c = (λ _. end_line-behind c.args.text.now c.ends_with.result c.ends_with.ensures.value c.if-ends_with.true, λ _. c.if-ends_with.true)

use Rattle.std.proofs.Common.{sym, ◌∙◌}
use Rattle.line_forms.proofs.Loops.{looked_here, looked_behind}
use Rattle.line_forms.proofs.keyword.keyword_of.Goals as goal

pub returns-then-same : goal.returns-then-same
returns-then-same c = looked_here _ c.loop-text.text-index _ c.args.word.now _ c.loop-text-test.true (sym c.same.ensures ∙ c.if-same.true) c.loop-text.invariant

pub loop-text-preserved : goal.loop-text-preserved
loop-text-preserved c = looked_behind _ c.loop-text.text-index _ c.args.word.now _ c.loop-text-test.true (sym c.same.ensures ∙ c.if-same.false) c.loop-text.invariant

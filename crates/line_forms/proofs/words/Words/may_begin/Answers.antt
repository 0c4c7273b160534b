use Rattle.std.proofs.Common.{sym, ◌∙◌}
use Rattle.line_forms.proofs.Cuts.{begins_with_none}
use Rattle.line_forms.proofs.words.Words.may_begin.Goals as goal

pub returns-in-Some-clause-word : goal.returns-in-Some-clause-word
returns-in-Some-clause-word c = λ f. begins_with_none _ _ _ c.in-Some.is (sym c.starts_with.ensures.value ∙ f)

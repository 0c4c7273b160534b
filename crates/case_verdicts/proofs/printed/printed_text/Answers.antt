use Rattle.std.proofs.Common.{sym, ◌∙◌}
use Rattle.case_verdicts.proofs.Given.{not_memory}
use Rattle.case_verdicts.proofs.printed.printed_text.Goals as goal

pub returns-in-Err-Bad : goal.returns-in-Err-Bad
returns-in-Err-Bad c = λ s stands. absurd (not_memory _ _ (sym c.in-Err-Bad.field-0-is ∙ c.in-Err-Bad.ensures.every s stands))

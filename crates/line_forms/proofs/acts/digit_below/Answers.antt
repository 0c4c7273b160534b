use Rattle.std.proofs.Common.{arith}
use Rattle.line_forms.proofs.Spelling.{digit_read}
use Rattle.line_forms.proofs.acts.digit_below.Goals as goal

pub returns-then-value-limit : goal.returns-then-value-limit
returns-then-value-limit c =
    (c.if-value-limit.true, digit_read _ _ c.digit-value.ensures.value (omega (arith, c.if-value-limit.true, c.requires)))

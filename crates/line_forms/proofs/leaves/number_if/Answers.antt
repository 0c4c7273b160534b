use Rattle.std.proofs.Common.{refl}
use Rattle.line_forms.proofs.Cuts.{no_number}
use Rattle.line_forms.proofs.leaves.number_if.Goals as goal

pub returns-then-not-may_begin : goal.returns-then-not-may_begin
returns-then-not-may_begin c = no_number _ _ _ _ (c.if-not-may_begin.ensures.word refl)

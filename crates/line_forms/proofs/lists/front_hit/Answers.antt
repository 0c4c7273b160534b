use Rattle.std.proofs.Common.{sym, ◌∙◌}
use Rattle.line_forms.proofs.Fronts.{front_is}
use Rattle.line_forms.proofs.lists.front_hit.Goals as goal

pub returns : goal.returns
returns c =
    let is = c.in-Some.ensures in
    front_is _ _ _ _ _ _ is.parts is.bytes is.named c.cut.ensures (sym c.decimal.ensures ∙ c.in_ok-times.was)

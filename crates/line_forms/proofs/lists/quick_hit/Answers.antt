use Rattle.line_forms.proofs.Fronts.{front_next}
use Rattle.line_forms.proofs.lists.quick_hit.Goals as goal

pub returns : goal.returns
returns c = front_next _ _ _ _ _ c.in_ok-text.ensures.words c.in-Some.ensures c.behind.ensures

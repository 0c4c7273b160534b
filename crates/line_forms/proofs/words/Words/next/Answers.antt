use Rattle.line_forms.proofs.Cuts.{next_is}
use Rattle.line_forms.proofs.words.Words.next.Goals as goal

pub returns : goal.returns
returns c = next_is _ _ _ _ c.in_ok-self.was c.cut.ensures

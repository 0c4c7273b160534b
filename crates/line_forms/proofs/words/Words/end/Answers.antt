use Rattle.line_forms.proofs.Cuts.{end_is}
use Rattle.line_forms.proofs.words.Words.end.Goals as goal

pub returns-in-Some : goal.returns-in-Some
returns-in-Some c = end_is _ _ c.in-Some.is

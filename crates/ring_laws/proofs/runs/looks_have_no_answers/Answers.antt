use Rattle.ring_laws.proofs.Lines.{looks-give-no-line}
use Rattle.ring_laws.proofs.runs.looks_have_no_answers.Goals as goal

pub returns : goal.returns
returns c = looks-give-no-line

use Rattle.ring_laws.proofs.Lines.{looks-do-nothing}
use Rattle.ring_laws.proofs.runs.looks_do_no_lines.Goals as goal

pub returns : goal.returns
returns c = looks-do-nothing

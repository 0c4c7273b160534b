use Rattle.ring_laws.proofs.Shapes.{unseen-looks}
use Rattle.ring_laws.proofs.runs.looks_leave_other_rings.Goals as goal

pub returns : goal.returns
returns c = unseen-looks

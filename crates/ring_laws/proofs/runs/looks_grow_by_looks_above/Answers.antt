use Rattle.ring_laws.proofs.Shapes.{looks-more}
use Rattle.ring_laws.proofs.runs.looks_grow_by_looks_above.Goals as goal

pub returns : goal.returns
returns c = looks-more

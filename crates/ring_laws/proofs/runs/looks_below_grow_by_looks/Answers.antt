use Rattle.ring_laws.proofs.Shapes.{below-more}
use Rattle.ring_laws.proofs.runs.looks_below_grow_by_looks.Goals as goal

pub returns : goal.returns
returns c = below-more

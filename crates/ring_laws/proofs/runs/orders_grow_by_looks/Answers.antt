use Rattle.ring_laws.proofs.Shapes.{shaped-looks}
use Rattle.ring_laws.proofs.runs.orders_grow_by_looks.Goals as goal

pub returns : goal.returns
returns c = shaped-looks

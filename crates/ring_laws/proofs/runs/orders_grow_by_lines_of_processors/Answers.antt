use Rattle.ring_laws.proofs.Shapes.{shaped-cpu}
use Rattle.ring_laws.proofs.runs.orders_grow_by_lines_of_processors.Goals as goal

pub returns : goal.returns
returns c = shaped-cpu

use Rattle.ring_laws.proofs.Shapes.{shaped-tool}
use Rattle.ring_laws.proofs.runs.orders_grow_by_lines_of_tools.Goals as goal

pub returns : goal.returns
returns c = shaped-tool

use Rattle.ring_laws.proofs.Shapes.{shaped-none}
use Rattle.ring_laws.proofs.runs.empty_orders_are_run_shaped.Goals as goal

pub returns : goal.returns
returns c = shaped-none

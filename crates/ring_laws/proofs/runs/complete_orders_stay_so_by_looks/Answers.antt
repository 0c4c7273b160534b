use Rattle.ring_laws.proofs.Lines.{complete-looks}
use Rattle.ring_laws.proofs.runs.complete_orders_stay_so_by_looks.Goals as goal

pub returns : goal.returns
returns c = complete-looks

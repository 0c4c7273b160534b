use Rattle.ring_laws.proofs.Lines.{counted-lines}
use Rattle.ring_laws.proofs.runs.counted_orders_do_few_lines.Goals as goal

pub returns : goal.returns
returns c = counted-lines

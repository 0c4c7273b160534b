use Rattle.ring_laws.proofs.Lines.{counted-cpus}
use Rattle.ring_laws.proofs.runs.counted_orders_do_few_lines_of_processors.Goals as goal

pub returns : goal.returns
returns c = counted-cpus

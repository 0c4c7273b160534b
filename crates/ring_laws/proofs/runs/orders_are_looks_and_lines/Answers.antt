use Rattle.ring_laws.proofs.Lines.{lengths}
use Rattle.ring_laws.proofs.runs.orders_are_looks_and_lines.Goals as goal

pub returns : goal.returns
returns c = lengths

use Rattle.ring_laws.proofs.Small.{sums_of_script}
use Rattle.ring_laws.proofs.laws.orders_count_little.Goals as goal

pub returns : goal.returns
returns c = sums_of_script

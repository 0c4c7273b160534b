use Rattle.ring_laws.proofs.Small.{clock_of_script}
use Rattle.ring_laws.proofs.laws.orders_take_little_time.Goals as goal

pub returns : goal.returns
returns c = clock_of_script

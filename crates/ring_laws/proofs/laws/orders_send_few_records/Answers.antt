use Rattle.ring_laws.proofs.Orders.{few_of_script}
use Rattle.ring_laws.proofs.laws.orders_send_few_records.Goals as goal

pub returns : goal.returns
returns c = few_of_script

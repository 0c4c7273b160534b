use Rattle.ring_laws.proofs.Losses.{few_lost_of_script}
use Rattle.ring_laws.proofs.laws.orders_lose_few_records.Goals as goal

pub returns : goal.returns
returns c = few_lost_of_script

use Rattle.ring_laws.proofs.Orders.{few_words}
use Rattle.ring_laws.proofs.laws.orders_write_few_words.Goals as goal

pub returns : goal.returns
returns c = few_words

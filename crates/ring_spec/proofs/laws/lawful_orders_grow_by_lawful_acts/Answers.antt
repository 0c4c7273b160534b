use Rattle.ring_spec.proofs.Lawful.{lawful_law}
use Rattle.ring_spec.proofs.laws.lawful_orders_grow_by_lawful_acts.Goals as goal

pub returns : goal.returns
returns c = lawful_law

use Rattle.ring_spec.proofs.Rings.{sends_law}
use Rattle.ring_spec.proofs.laws.rings_get_what_steps_send.Goals as goal

pub returns : goal.returns
returns c = sends_law

use Rattle.ring_laws.proofs.Losses.{heads}
use Rattle.ring_laws.proofs.laws.heads_are_bounded_by_weight.Goals as goal

pub returns : goal.returns
returns c = heads

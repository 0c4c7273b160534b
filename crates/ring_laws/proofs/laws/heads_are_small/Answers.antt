use Rattle.ring_laws.proofs.Losses.{small_heads}
use Rattle.ring_laws.proofs.laws.heads_are_small.Goals as goal

pub returns : goal.returns
returns c = small_heads

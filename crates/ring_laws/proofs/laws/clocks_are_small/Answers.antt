use Rattle.ring_laws.proofs.Clocks.{clock_small}
use Rattle.ring_laws.proofs.laws.clocks_are_small.Goals as goal

pub returns : goal.returns
returns c = clock_small

use Rattle.ring_laws.proofs.Clocks.{clock_at_most}
use Rattle.ring_laws.proofs.laws.clocks_go_by_work.Goals as goal

pub returns : goal.returns
returns c = clock_at_most

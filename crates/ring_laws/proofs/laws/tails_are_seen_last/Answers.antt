use Rattle.ring_laws.proofs.Tails.{seen_tail}
use Rattle.ring_laws.proofs.laws.tails_are_seen_last.Goals as goal

pub returns : goal.returns
returns c = seen_tail

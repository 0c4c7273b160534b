use Rattle.ring_spec.proofs.Conserved.{sent_law}
use Rattle.ring_spec.proofs.laws.sent_are_written_or_lost.Goals as goal

pub returns : goal.returns
returns c = sent_law

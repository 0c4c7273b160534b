use Rattle.ring_spec.proofs.Conserved.{told_law}
use Rattle.ring_spec.proofs.laws.lost_are_told_or_pending.Goals as goal

pub returns : goal.returns
returns c = told_law

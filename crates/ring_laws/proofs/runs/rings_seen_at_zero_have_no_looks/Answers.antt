use Rattle.ring_laws.proofs.Taken.{never-seen}
use Rattle.ring_laws.proofs.runs.rings_seen_at_zero_have_no_looks.Goals as goal

pub returns : goal.returns
returns c = never-seen

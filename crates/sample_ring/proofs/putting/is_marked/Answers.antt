use Rattle.std.proofs.Common.{rules}
use Rattle.sample_ring.proofs.putting.is_marked.Goals as goal

pub returns : goal.returns
returns c = search rules

use Rattle.std.proofs.Common.{rules}
use Rattle.sample_ring.proofs.putting.record_size.Goals as goal

pub returns-in-Lost : goal.returns-in-Lost
returns-in-Lost c = search rules

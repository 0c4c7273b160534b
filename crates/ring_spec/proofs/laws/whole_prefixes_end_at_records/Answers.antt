use Rattle.ring_spec.proofs.Sizes.{prefix_law}
use Rattle.ring_spec.proofs.laws.whole_prefixes_end_at_records.Goals as goal

pub returns : goal.returns
returns c = prefix_law

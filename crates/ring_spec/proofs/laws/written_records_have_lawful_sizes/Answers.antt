use Rattle.ring_spec.proofs.Sizes.{sizes_law}
use Rattle.ring_spec.proofs.laws.written_records_have_lawful_sizes.Goals as goal

pub returns : goal.returns
returns c = sizes_law

use Rattle.ring_spec.proofs.Cutting.{whole_law}
use Rattle.ring_spec.proofs.laws.words_of_records_are_whole.Goals as goal

pub returns : goal.returns
returns c = whole_law

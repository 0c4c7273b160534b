use Rattle.ring_spec.proofs.Cutting.{words_law}
use Rattle.ring_spec.proofs.laws.words_stand_for_one_list.Goals as goal

pub returns : goal.returns
returns c = words_law

use Rattle.ring_spec.proofs.Sizes.{ring_words_law}
use Rattle.ring_spec.proofs.laws.rings_get_few_words.Goals as goal

pub returns : goal.returns
returns c = ring_words_law

use Rattle.ring_words.proofs.Loads.{loads_law}
use Rattle.ring_words.proofs.laws.loads_of_their_words.Goals as goal

pub returns : goal.returns
returns c = loads_law

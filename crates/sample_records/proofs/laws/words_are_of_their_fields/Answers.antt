use Rattle.sample_records.proofs.HeaderBytes.{header_word_law}
use Rattle.sample_records.proofs.laws.words_are_of_their_fields.Goals as goal

pub returns : goal.returns
returns c = header_word_law

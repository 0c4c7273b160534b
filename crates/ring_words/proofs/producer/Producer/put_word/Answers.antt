use Rattle.std.proofs.Common.{rules}
use Rattle.ring_words.proofs.producer.Producer.put_word.Goals as goal

pub returns-clause-end : goal.returns-clause-end
returns-clause-end c = search rules

pub store_word-requires-clause-cell : goal.store_word-requires-clause-cell
store_word-requires-clause-cell c = search rules

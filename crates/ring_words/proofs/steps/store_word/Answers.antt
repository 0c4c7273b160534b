use Rattle.std.proofs.Common.{rules}
use Rattle.ring_words.proofs.Writing.{may_store_word}
use Rattle.ring_words.proofs.steps.store_word.Goals as goal

pub store-requires : goal.store-requires
store-requires c = (search rules, search rules, may_store_word _ _ _ _ c.requires.role _ _ c.requires.cell c.requires.room)

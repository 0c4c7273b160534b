use Rattle.std.proofs.Common.{rules}
use Rattle.ring_words.proofs.Reading.{may_store_tail}
use Rattle.ring_words.proofs.steps.store_tail.Goals as goal

pub store-requires : goal.store-requires
store-requires c = (search rules, search rules, may_store_tail _ _ _ _ c.requires.role _ c.requires.tail c.requires.whole)

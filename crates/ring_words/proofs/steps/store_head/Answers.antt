use Rattle.std.proofs.Common.{rules}
use Rattle.ring_words.proofs.Writing.{may_store_head}
use Rattle.ring_words.proofs.steps.store_head.Goals as goal

pub store-requires : goal.store-requires
store-requires c = (search rules, search rules, may_store_head _ _ _ _ c.requires.role _ c.requires.head c.requires.whole)

use Rattle.std.proofs.Common.{rules}
use Rattle.ring_words.proofs.Writing.{may_load_tail}
use Rattle.ring_words.proofs.steps.load_tail.Goals as goal

pub load-requires : goal.load-requires
load-requires c = (search rules, search rules, may_load_tail _ _ _ _ c.requires.role)

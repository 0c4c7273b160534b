use Rattle.std.proofs.Common.{rules}
use Rattle.ring_words.proofs.Reading.{may_load_head}
use Rattle.ring_words.proofs.steps.load_head.Goals as goal

pub load-requires : goal.load-requires
load-requires c = (search rules, search rules, may_load_head _ _ _ _ c.requires.role)

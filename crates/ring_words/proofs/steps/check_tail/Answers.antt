use Rattle.std.proofs.Common.{rules}
use Rattle.ring_words.proofs.Reading.{may_check_tail}
use Rattle.ring_words.proofs.steps.check_tail.Goals as goal

pub load-requires : goal.load-requires
load-requires c = (search rules, search rules, may_check_tail _ _ _ _ c.requires.role)

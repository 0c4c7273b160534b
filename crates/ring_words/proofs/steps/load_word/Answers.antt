use Rattle.std.proofs.Common.{rules}
use Rattle.ring_words.proofs.Reading.{may_load_word}
use Rattle.ring_words.proofs.steps.load_word.Goals as goal

pub load-requires : goal.load-requires
load-requires c = (search rules, search rules, may_load_word _ _ _ _ c.requires.role _ c.requires.cell c.requires.more.0 c.requires.more.1)

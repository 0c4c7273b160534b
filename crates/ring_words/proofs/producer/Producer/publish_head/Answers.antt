use Rattle.ring_words.proofs.Sound.{holds_published}
use Rattle.ring_words.proofs.producer.Producer.publish_head.Goals as goal

pub invariant_of-self : goal.invariant_of-self
invariant_of-self c = rw (c.store_head.ensures.table, c.store_head.ensures.step.view) (holds_published _ _ _ c.self.invariant (rw (← c.self.view_is) at c.requires.whole))

pub returns-clause-sound : goal.returns-clause-sound
returns-clause-sound c = (invariant_of-self c).sound

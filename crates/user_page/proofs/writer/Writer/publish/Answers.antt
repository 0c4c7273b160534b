use Rattle.std.proofs.Common.{rules}
use Rattle.user_page.proofs.Lists.{list_more}
use Rattle.user_page.proofs.writer.Writer.publish.Goals as goal

pub returns-clause-sound : goal.returns-clause-sound
returns-clause-sound c = rw c.publish_look-self-inside.ensures.view (list_more _ _ c.self.invariant.sound (rw (← c.self.view_is) at c.requires.rises))

pub invariant_of-self : goal.invariant_of-self
invariant_of-self c = record { sits = c.publish_look-self-inside.ensures.writer; sound = returns-clause-sound c }

pub returns-clause-end : goal.returns-clause-end
returns-clause-end c = search rules

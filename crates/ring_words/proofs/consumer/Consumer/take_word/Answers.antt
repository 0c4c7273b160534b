use Rattle.ring_words.proofs.Cuts.{next_begins}
use Rattle.ring_words.proofs.consumer.Consumer.take_word.Goals as goal

pub returns-clause-block : goal.returns-clause-block
returns-clause-block c = rw (← c.self.view_is) (next_begins _ _ _ c.load_word-word.ensures.step.leads)

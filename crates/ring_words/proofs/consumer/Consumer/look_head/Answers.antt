use Rattle.std.proofs.Common.{rules}
use Rattle.ring_words.proofs.consumer.Consumer.look_head.Goals as goal

pub returns-clause-end : goal.returns-clause-end
returns-clause-end c = search rules

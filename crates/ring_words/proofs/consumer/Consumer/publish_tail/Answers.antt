use Rattle.std.proofs.Common.{rules}
use Rattle.ring_words.proofs.consumer.Consumer.publish_tail.Goals as goal

pub returns-clause-end : goal.returns-clause-end
returns-clause-end c = search rules

pub store_tail-requires-clause-tail : goal.store_tail-requires-clause-tail
store_tail-requires-clause-tail c = search rules

use Rattle.std.proofs.Common.{refl}
use Rattle.ring_words.proofs.Prefixes.{whole_pair}
use Rattle.ring_tests.proofs.rings.put_block.Goals as goal

pub returns-clause-whole : goal.returns-clause-whole
returns-clause-whole c = rw (c.put_word-2.ensures.end, c.put_word.ensures.end) (whole_pair c.args.producer.now.put 4503599627370505 c.args.second refl c.requires.whole)

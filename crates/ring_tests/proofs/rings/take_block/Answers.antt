use Rattle.std.proofs.Common.{rules, ◌≡◌, ap}
use Rattle.ring_spec.specs.Whole.{size_field}
use Rattle.ring_words.proofs.Prefixes.{whole_pair}
use Rattle.ring_tests.proofs.rings.take_block.Goals as goal

pub returns-clause-whole : goal.returns-clause-whole
returns-clause-whole g c =
    let first : c.take_word-first.result ≡ 4503599627370505 = search rules in
    rw (c.take_word-second.ensures.end, c.take_word-first.ensures.end) (whole_pair c.args.consumer.now.taken c.take_word-first.result c.take_word-second.result (ap size_field first) c.requires.whole)

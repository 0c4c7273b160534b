use Rattle.std.proofs.Common.{◌+◌, rules, arith}
use Rattle.sample_ring.proofs.Marks.{marks_put}
use Rattle.sample_ring.proofs.putting.put_record.Goals as goal

pub returns-clause-marks : goal.returns-clause-marks
returns-clause-marks c =
    rw (c.put_words.ensures.end, c.as_slice.ensures, c.words_of-words.ensures)
    (marks_put c.args.marks.now c.args.producer.now _ (c.args.head + c.record_size.result) c.requires.marks c.requires.lawful (omega (arith, c.record_size.ensures, c.requires.head)) (search rules) c.requires.sound c.requires.room)

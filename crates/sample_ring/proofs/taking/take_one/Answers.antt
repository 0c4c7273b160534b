use Rattle.std.proofs.Common.{arith}
use Rattle.sample_ring.proofs.Readers.{Follows, follows_met, takes_one}
use Rattle.sample_ring.proofs.taking.take_one.Goals as goal

pub returns-clause-takes : goal.returns-clause-takes
returns-clause-takes c =
    let f : Follows c.take.new.self c.args.out.now.producer.published = follows_met c.args.out.now c.meet.new.out c.take.new.self _ _ c.take.ensures.sound c.meet.ensures.sound.0 c.meet.ensures.out c.meet.ensures.prefix (omega (arith, c.requires.room, c.take.ensures.reads.room)) in
    rw c.meet.ensures.reader
    (takes_one c.args.reader.now c.take.new.self c.args.out.now.producer.published c.take.result c.requires.sound f c.take.ensures.reads c.take.ensures.records _ _ c.take.ensures.most c.take.ensures.fewer (omega (arith, c.requires.head, c.take.ensures.reads.rises)) c.requires.more (c.take.ensures.released c.requires.kept))

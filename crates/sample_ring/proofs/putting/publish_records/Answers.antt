use Rattle.sample_records.specs.Seen.{seen}
use Rattle.sample_ring.proofs.Sending.{whole-both}
use Rattle.sample_ring.proofs.putting.publish_records.Goals as goal

pub publish_head-requires-clause-whole : goal.publish_head-requires-clause-whole
publish_head-requires-clause-whole c =
    rw (c.put_record-head.ensures.end, c.put_told-behind.ensures.end, c.requires.put) (whole-both c.args.numbers.now.pending (seen c.args.told.now) (seen c.args.sent.now) c.requires.told c.requires.lawful)

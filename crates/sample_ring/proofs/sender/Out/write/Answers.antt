use Rattle.std.proofs.Common.{◌≡◌, ◌++◌, ◌∷◌, [], length, ap, arith}
use Rattle.sample_records.specs.Seen.{seen}
use Rattle.sample_ring.{specs.Sends.{told_where}, proofs.Sending.{lawful-both, written_over, holds_published}}
use Rattle.sample_ring.proofs.sender.Out.write.Goals as goal

pub invariant_of-self : goal.invariant_of-self
invariant_of-self c =
    let same : length c.publish_records-head.new.marks ≡ length c.self.inside.marks.items = omega (arith, c.publish_records-head.auto.marks, c.as_mut_slice-marks.ensures.len, ap length c.as_mut_slice-marks.ensures.value) in
    let sound = rw c.publish_records-head.ensures.end at c.publish_records-head.ensures.sound in
    let noted = rw c.publish_records-head.ensures.end at c.publish_records-head.ensures.marks in
    rw (c.publish_records-head.ensures.end, written_over c.self.inside.marks.items c.publish_records-head.new.marks c.self.inside.marks.len c.self.inside.marks.ok.0 same)
    (holds_published c.self.inside.producer c.self.inside.numbers c.self.inside.marks.items c.publish_records-head.new.marks (told_where c.self.inside.numbers.pending (seen c.args.told.now) ++ seen c.args.sent.now ∷ []) c.publish_records-head.result c.self.invariant same (lawful-both c.self.inside.numbers.pending (seen c.args.told.now) (seen c.args.sent.now) c.requires.told c.requires.lawful) c.publish_records-head.ensures.head sound noted)

pub returns-clause-sound : goal.returns-clause-sound
returns-clause-sound c = let h = invariant_of-self c in record { producer = h.sound; put = h.put; records = h.records; pending = h.pending; bytes = omega (arith, h.bytes, h.small) }

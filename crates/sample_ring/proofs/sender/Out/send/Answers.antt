use Rattle.sample_records.specs.Seen.{seen}
use Rattle.sample_ring.{specs.{contracts.sender.Out.{the_view}, Sends.{request}}, proofs.Sending.{found, after_lost, after_written}}
use Rattle.sample_ring.proofs.sender.Out.send.Goals as goal

pub returns-then-room-need-clause-account : goal.returns-then-room-need-clause-account
returns-then-room-need-clause-account c =
    let f = (found (the_view c.self.inside) c.args.self.now (request c.args.sent.now c.args.id c.args.trailer.now) (seen c.lost_record-told.result) c.size_told.result c.record_size.result c.room.result c.self.view_is c.self.invariant.put c.lost_record-told.ensures.says c.size_told.ensures c.record_size.ensures c.room.ensures) in
    λ a s h e. rw c.lose.ensures.end (after_lost c.args.self.now (request c.args.sent.now c.args.id c.args.trailer.now) (seen c.lost_record-told.result) c.size_told.result c.record_size.result c.room.result f c.if-room-need.true a s h e)

pub returns-else-room-need-clause-account : goal.returns-else-room-need-clause-account
returns-else-room-need-clause-account c =
    let f = (found (the_view c.self.inside) c.args.self.now (request c.args.sent.now c.args.id c.args.trailer.now) (seen c.lost_record-told.result) c.size_told.result c.record_size.result c.room.result c.self.view_is c.self.invariant.put c.lost_record-told.ensures.says c.size_told.ensures c.record_size.ensures c.room.ensures) in
    λ a s h e. rw c.write.ensures.end (after_written c.args.self.now (request c.args.sent.now c.args.id c.args.trailer.now) (seen c.lost_record-told.result) c.size_told.result c.record_size.result c.room.result f c.if-room-need.false c.lost_record-told.ensures.lawful c.requires.lawful a s h e)

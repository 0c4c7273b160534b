use Rattle.std.proofs.Common.{arith, false}
use Rattle.sample_ring.{specs.Sends.{request}, proofs.Sending.{head_bounded}}
use Rattle.ring_tests.proofs.sends.send.Goals as goal

pub send-requires-clause-head : goal.send-requires-clause-head
send-requires-clause-head g c =
    omega (
      arith,
      head_bounded c.args.out.now (request c.sample_record-record.result 1 (record { all = false; sample = c.args.sample; fields = c.fields_of-fields.result })),
      c.numbers-before.ensures.head,
      c.numbers-before.ensures.sound.bytes,
    )

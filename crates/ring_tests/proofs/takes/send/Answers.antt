use Rattle.std.proofs.Common.{false, arith}
use Rattle.sample_ring.{specs.Sends.{request}, proofs.Sending.{head_bounded}}
use Rattle.ring_tests.proofs.takes.send.Goals as goal

pub send-requires-clause-head : goal.send-requires-clause-head
send-requires-clause-head g c =
    omega (
      arith,
      head_bounded c.args.out.now (request c.sample_record-record.result 1 (record { all = false; sample = c.args.sample; fields = record { identifier = 1; ip = 5; pid = 3; tid = 3; time = 7; id = 1; stream_id = 2; cpu = 1; period = 6 } })),
      c.numbers-before.ensures.head,
      c.numbers-before.ensures.sound.bytes,
    )

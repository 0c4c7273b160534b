use Rattle.std.proofs.Common.{ap, ◌∙◌, slice_set}
use Rattle.sample_ring.specs.RingLists.{ring_index}
use Rattle.work_account.{specs.Sampling.{asks}, proofs.Sends.{found-is, lost-answer, head-fits, lost-fits}}
use Rattle.work_account.proofs.sending.send.Goals as goal

pub send-requires-clause-head : goal.send-requires-clause-head
send-requires-clause-head c =
    head-fits c.args.outs.now.outs (ring_index c.args.outs.now.numbers c.args.sample.now.ring) c.out.result.now (asks c.args.sample.now) c.requires.heads c.out.ensures.value

pub send-requires-clause-lost : goal.send-requires-clause-lost
send-requires-clause-lost c =
    lost-fits c.args.outs.now.outs (ring_index c.args.outs.now.numbers c.args.sample.now.ring) c.out.result.now (asks c.args.sample.now) c.requires.losses c.out.ensures.value

pub returns-clause-outs : goal.returns-clause-outs
returns-clause-outs c =
    let numbers = c.args.outs.now.numbers in
    let outs = c.args.outs.now.outs in
    ap (λ l. record { numbers = numbers; outs = l })
    (ap (slice_set outs (ring_index numbers c.args.sample.now.ring)) c.send.ensures.end
    ∙ (found-is numbers outs c.args.sample.now.ring (asks c.args.sample.now) c.out.result.now c.requires.ring c.out.ensures.value).0)

pub returns-clause-answer : goal.returns-clause-answer
returns-clause-answer c =
    lost-answer c.args.outs.now.numbers c.args.outs.now.outs c.args.sample.now.ring (asks c.args.sample.now) c.out.result.now c.send.result c.requires.ring c.out.ensures.value c.send.ensures.answer

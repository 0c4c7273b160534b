use Rattle.std.proofs.Common.{arith, refl}
use Rattle.world_spec.specs.Value.{instance_at}
use Rattle.work_account.proofs.sending.send_one.Goals as goal

pub send-answer-requires-clause-heads : goal.send-answer-requires-clause-heads
send-answer-requires-clause-heads c = λ k d inside. omega (arith, c.requires.space.heads k d inside)

pub send-answer-requires-clause-losses : goal.send-answer-requires-clause-losses
send-answer-requires-clause-losses c = c.requires.space.losses

pub count_lost-requires-clause-fits : goal.count_lost-requires-clause-fits
count_lost-requires-clause-fits c = c.requires.space.lost (instance_at c.args.world.now c.args.sample.now.origin).event.0 (c.args.sample.now.origin, c.requires.live, refl)

use Rattle.std.proofs.Common.{inr}
use Rattle.live_session.proofs.Ending.{talked}
use Rattle.live_session.proofs.talking.answer.Goals as goal

pub returns-in-Ok-clause-ending : goal.returns-in-Ok-clause-ending
returns-in-Ok-clause-ending g c =
    inr (talked g.K.Sink.shows c.talk.result c.args.source.now c.open.new.source c.talk.new.source c.in-Ok.session c.talk.new.self c.args.sink.now c.talk.new.sink c.in-Ok.ensures.ok c.open.ensures.count
    c.talk.ensures.gone)

use Rattle.std.specs.Prelude.{◌+◌, [], ◌∷◌, ◌++◌}
use Rattle.std.proofs.Common.{refl, ap, subst, ◌∙◌}
use Rattle.std.proofs.lemmas.List.{length_push}
use Rattle.live_session.specs.Sessions.{HasTurned}
use Rattle.live_session.proofs.Going.{begin, go-on, stopped}
use Rattle.live_session.proofs.session.Session.talk.Goals as goal

pub loop-init : goal.loop-init
loop-init g c = ([], [], begin c.args.self.now c.args.source.now c.args.sink.now c.requires.first, refl)

pub returns-in-Err-clause-gone : goal.returns-in-Err-clause-gone
returns-in-Err-clause-gone g c =
    let i = c.loop.invariant in
    stopped c.in-Err.status c.args.self.now c.loop.self c.turn.new.self c.args.source.now c.loop.source c.turn.new.source c.args.sink.now c.loop.sink c.turn.new.sink i.0 i.1 i.2
    (c.in-Err.ensures.err i.1 i.2.live)

pub loop-preserved : goal.loop-preserved
loop-preserved g c =
    let i = c.loop.invariant in
    let t = subst (HasTurned g.S.Source.shows g.K.Sink.shows c.loop.self c.turn.new.self c.loop.source c.turn.new.source c.loop.sink c.turn.new.sink i.1) c.in-Ok-Answered.field-0-is
    (c.in-Ok-Answered.ensures.ok i.1 i.2.live) in (
      i.0 ++ t.0 ∷ [],
      t.1,
      go-on c.args.self.now c.loop.self c.turn.new.self c.args.source.now c.loop.source c.turn.new.source c.args.sink.now c.loop.sink c.turn.new.sink i.0 i.1 t.1 t.0 i.2 t.2 t.3 t.4
          c.turn.ensures.counts.0 c.turn.ensures.counts.1,
      length_push i.0 t.0 ∙ ap (λ n. n + 1) i.3,
    )

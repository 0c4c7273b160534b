use Rattle.std.proofs.Common.{subst, sym}
use Rattle.perf_io.specs.Wrote.{WroteFront}
use Rattle.live_session.specs.{Sessions.{IsHeard}, Texts.{said_text}}
use Rattle.live_session.proofs.session.Session.turn.Goals as goal

pub returns-in-Err-clause-err : goal.returns-in-Err-clause-err
returns-in-Err-clause-err g c = λ made h.
    let t = subst (IsHeard g.S.Source.shows c.args.self.now c.hear.new.self c.args.source.now c.hear.new.source made) c.in-Some.is (c.in_ok-said.ensures.ok made h) in
    (t.0, t.1, t.3, subst (λ says. WroteFront g.K.Sink.shows c.args.sink.now c.tell.new.sink (said_text says)) (sym t.2) c.in-Err.ensures.err)

use Rattle.std.proofs.Common.{◌≡◌, List, length}
use Rattle.perf_base.specs.declared.reply.Reply.{Reply}
use Rattle.given_lines.specs.declared.given.Given.{Given}
use Rattle.live_session.specs.{Going.{GoesOn}, Turns.{Turn}}
use Rattle.live_session.proofs.session.Session.talk.Given as goal

abbrev pub invariant-loop : goal.invariant-loop
invariant-loop g l = (turns : List Turn) × (made : List (Given × Reply)) × GoesOn g.S.Source.shows g.K.Sink.shows l.fn.self l.self l.fn.source l.source l.fn.sink l.sink turns made × (length turns ≡ l.counter)

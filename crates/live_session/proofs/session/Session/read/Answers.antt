use Rattle.std.proofs.Common.{subst}
use Rattle.live_session.specs.Sessions.{IsOpened, IsRefusedHead}
use Rattle.live_session.proofs.Opening.{first-head, no-session}
use Rattle.live_session.proofs.session.Session.read.Goals as goal

pub returns-in-Err-clause-err : goal.returns-in-Err-clause-err
returns-in-Err-clause-err g c =
    no-session g.S.Source.shows c.in-Err.status c.args.source.now c.head_text.new.source c.head_text.new.self c.in-Ok.text.items
    (first-head g.S.Source.shows c.args.source.now c.args.input c.in-Ok.text.items _ c.requires c.in-Ok.ensures.ok)
    (subst (λ text. IsRefusedHead text c.in-Err.status) c.deref.ensures.value c.in-Err.ensures.bad)

pub returns-clause-ok : goal.returns-clause-ok
returns-clause-ok g c = record {
  text = c.in-Ok.text.items;
  come = first-head g.S.Source.shows c.args.source.now c.args.input c.in-Ok.text.items _ c.requires c.in-Ok.ensures.ok;
  opened = subst (λ text. IsOpened text c.in-Ok-read.machine) c.deref.ensures.value c.in-Ok-read.ensures.ok;
}

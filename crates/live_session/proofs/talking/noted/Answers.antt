use Rattle.std.proofs.Common.{rules}
use Rattle.std.specs.Prelude.{◌≡◌}
use Rattle.live_session.proofs.Noting.{other-noted}
use Rattle.live_session.specs.declared.status.Status.TheVariants as status
use Rattle.live_session.proofs.talking.noted.Goals as goal

pub returns-in-Ok-clause-note : goal.returns-in-Ok-clause-note
returns-in-Ok-clause-note g c =
    let other : c.args.status ≡ status.Done → ⊥ = λ e. let t = c.is_done.ensures.1 e in absurd cc in
    other-noted g.N.Sink.shows c.args.status c.put_note.result c.args.notes.now c.put_note.new.notes other c.put_note.ensures

pub returns-in-Ok-2-clause-note : goal.returns-in-Ok-2-clause-note
returns-in-Ok-2-clause-note g c =
    let other : c.args.status ≡ status.Done → ⊥ = λ e. let t = c.is_done.ensures.1 e in absurd cc in
    other-noted g.N.Sink.shows c.args.status c.put_note.result c.args.notes.now c.put_note.new.notes other c.put_note.ensures

pub returns-then-is_done-clause-note : goal.returns-then-is_done-clause-note
returns-then-is_done-clause-note g c = search rules

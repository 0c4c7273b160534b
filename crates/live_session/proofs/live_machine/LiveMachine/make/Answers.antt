use Rattle.std.specs.Prelude.{◌+◌, ◌++◌, [], ◌∷◌}
use Rattle.std.proofs.Common.{refl, subst, sym}
use Rattle.perf_share.specs.{Calls.{AreLegal, Fits}, Served.{IsAfter}, declared.call.Call.{Call}}
use Rattle.live_session.specs.Turns.{calls_in}
use Rattle.live_session.proofs.Making.{few-calls, fits, made-more}
use Rattle.live_session.proofs.live_machine.LiveMachine.make.Goals as goal

pub returns-clause-made : goal.returns-clause-made
returns-clause-made c = λ made h.
    let may : Fits c.args.self.now.script c.call.result = subst (Fits c.args.self.now.script) (sym c.call.ensures) (fits c.args.self.now.script c.args.given.now h.after.no_rings c.requires.line) in
    let done = c.apply.ensures c.args.self.now.script (calls_in made) (few-calls c.args.self.now made h c.if-self-ge-MOST_CALLS.false) h.after may in
    made-more c.args.self.now (record { served = c.apply.new.self; script = c.args.self.now.script; version = c.args.self.now.version; given = c.args.self.now.given + 1 }) made c.args.given.now
    c.apply.result h c.if-self-ge-MOST_CALLS.false refl refl
    (subst (λ (d : Call). IsAfter c.args.self.now.script c.apply.new.self (calls_in made ++ (d, c.apply.result) ∷ []) × AreLegal c.args.self.now.script (calls_in made ++ (d, c.apply.result) ∷ []))
    c.call.ensures done)

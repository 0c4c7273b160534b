use Rattle.std.proofs.Common.{arith, ◌∙◌, ◌<◌, length, ap, sym, refl}
use Rattle.world_spec.{specs.Value.{seats_at}, proofs.{Keeping.{seats-kept}, Ways.{other-ways}}}
use Rattle.world_spec.specs.Changes as change
use Rattle.perf_world.{specs.Seen.{seen, IsWorld}, proofs.{Kept.{kept-now}, Turning.{stored-after, stay-turned}}}
use Rattle.perf_world.proofs.world.World.set_seats.Goals as goal

pub set_seats-requires-clause-counters : goal.set_seats-requires-clause-counters
set_seats-requires-clause-counters c = ap (λ w. (seats_at w c.args.cpu).counters) c.self.view_is ∙ c.requires.counters

pub invariant_of-self : goal.invariant_of-self
invariant_of-self c =
    let kept : IsWorld c.args.self.now = kept-now (seen c.self.inside.pmus c.self.inside.events c.self.inside.contexts c.self.inside.families c.self.inside.processors c.self.inside.tasks c.self.inside.used c.self.inside.mapped c.self.inside.next_id) c.args.self.now c.self.view_is c.self.invariant.kept in
    let low : c.args.cpu.0 < length c.args.self.now.quiet.seats = omega (arith, c.requires.cpu, kept.tables.seats) in
    stored-after c.self.inside.events _ (change.with_seats c.args.cpu c.args.seats.now c.args.self.now) ((λ i. seen c.self.inside.pmus c.self.inside.events c.self.inside.contexts c.self.inside.families (c.set_seats.ensures.set i) c.self.inside.tasks c.self.inside.used c.self.inside.mapped c.self.inside.next_id) ∙ ap (change.with_seats c.args.cpu c.args.seats.now) c.self.view_is)
    (seats-kept c.args.self.now.hardware c.args.self.now c.args.cpu c.args.seats.now c.set_seats.ensures.sound (sym c.requires.counters ∙ kept.seated.counters c.args.cpu low) kept)
    (stay-turned c.self.inside.events c.self.inside.events (seen c.self.inside.pmus c.self.inside.events c.self.inside.contexts c.self.inside.families c.self.inside.processors c.self.inside.tasks c.self.inside.used c.self.inside.mapped c.self.inside.next_id) c.args.self.now (change.with_seats c.args.cpu c.args.seats.now c.args.self.now) c.self.view_is c.self.invariant.turned
    (λ k live. refl)
    (λ k live. live)
    (λ k live. other-ways c.args.self.now (change.with_seats c.args.cpu c.args.seats.now c.args.self.now) k refl refl refl)) c.self.invariant.clear

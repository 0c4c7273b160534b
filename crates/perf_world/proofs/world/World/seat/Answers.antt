use Rattle.std.proofs.Common.{arith, ◌≡◌, ◌∙◌, ◌++◌, ◌<◌, length, ap, subst, OnOk, slice_index_or, refl}
use Rattle.counter_match.specs.Seating.{Seated, IsSound}
use Rattle.world_spec.{specs.Value.{seats_at}, proofs.{Keeping.{seats-kept}, Ways.{other-ways}}}
use Rattle.world_spec.specs.Changes as change
use Rattle.world_tables.specs.Places.{Places, no_seats}
use Rattle.perf_world.{specs.Seen.{seen}, proofs.{Kept.{kept-now}, Seats.{seats-sound, on-err}, Turning.{stored-after, stay-turned}}}
use Rattle.perf_world.proofs.world.World.seat.Goals as goal

pub invariant_of-self : goal.invariant_of-self
invariant_of-self g c =
    let now : Seated = (slice_index_or c.seat.new.self.seats c.args.cpu.0 no_seats) in
    let old : Seated = seats_at c.args.self.now c.args.cpu in
    let low : c.args.cpu.0 < length c.args.self.now.quiet.seats = omega (arith, c.requires.cpu, ((kept-now (seen c.self.inside.pmus c.self.inside.events c.self.inside.contexts c.self.inside.families c.self.inside.processors c.self.inside.tasks c.self.inside.used c.self.inside.mapped c.self.inside.next_id) c.args.self.now c.self.view_is c.self.invariant.kept)).tables.seats) in
    let at : slice_index_or c.self.inside.processors.seats c.args.cpu.0 no_seats ≡ old = ap (λ w. seats_at w c.args.cpu) c.self.view_is in
    let sound : IsSound now =
    seats-sound c.seat.result old now c.args.group.now (((kept-now (seen c.self.inside.pmus c.self.inside.events c.self.inside.contexts c.self.inside.families c.self.inside.processors c.self.inside.tasks c.self.inside.used c.self.inside.mapped c.self.inside.next_id) c.args.self.now c.self.view_is c.self.invariant.kept)).seated.sound c.args.cpu low) (c.seat.ensures.counters ∙ ap (λ s. s.counters) at)
    (subst (λ (s : Seated). OnOk c.seat.result (now.events ≡ s.events ++ c.args.group.now)) at c.seat.ensures.added)
    c.seat.ensures.assigned
    (on-err c.seat.result (λ (p : Places). slice_index_or p.seats c.args.cpu.0 no_seats) c.seat.new.self c.self.inside.processors old at c.seat.ensures.same)
    c.requires.distinct c.requires.masks in
    stored-after c.self.inside.events _ (change.with_seats c.args.cpu now c.args.self.now) ((λ i. seen c.self.inside.pmus c.self.inside.events c.self.inside.contexts c.self.inside.families (c.seat.ensures.rest i) c.self.inside.tasks c.self.inside.used c.self.inside.mapped c.self.inside.next_id) ∙ ap (change.with_seats c.args.cpu now) c.self.view_is)
    (seats-kept c.args.self.now.hardware c.args.self.now c.args.cpu now sound (c.seat.ensures.counters ∙ (ap (λ s. s.counters) at ∙ ((kept-now (seen c.self.inside.pmus c.self.inside.events c.self.inside.contexts c.self.inside.families c.self.inside.processors c.self.inside.tasks c.self.inside.used c.self.inside.mapped c.self.inside.next_id) c.args.self.now c.self.view_is c.self.invariant.kept)).seated.counters c.args.cpu low)) (kept-now (seen c.self.inside.pmus c.self.inside.events c.self.inside.contexts c.self.inside.families c.self.inside.processors c.self.inside.tasks c.self.inside.used c.self.inside.mapped c.self.inside.next_id) c.args.self.now c.self.view_is c.self.invariant.kept))
    (stay-turned c.self.inside.events c.self.inside.events (seen c.self.inside.pmus c.self.inside.events c.self.inside.contexts c.self.inside.families c.self.inside.processors c.self.inside.tasks c.self.inside.used c.self.inside.mapped c.self.inside.next_id) c.args.self.now (change.with_seats c.args.cpu now c.args.self.now) c.self.view_is c.self.invariant.turned
    (λ k live. refl)
    (λ k live. live)
    (λ k live. other-ways c.args.self.now (change.with_seats c.args.cpu now c.args.self.now) k refl refl refl)) c.self.invariant.clear

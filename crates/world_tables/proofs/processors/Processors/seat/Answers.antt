use Rattle.std.proofs.Common.{◌≡◌, sym, ap, ◌∙◌, ◌++◌, subst, OnOk, slice_set, slice_index_or, map}
use Rattle.stage_spec.specs.{Fits.{IsAssignment}, Tight.{masks_of}}
use Rattle.world_tables.{specs.Places.{Place, places, no_seats}, proofs.Parts.{put-seats, seats-at, part-now, places-low}}
use Rattle.world_tables.proofs.processors.Processors.seat.Goals as goal

pub returns-clause-rest : goal.returns-clause-rest
returns-clause-rest g c =
    let n : Place = c.seat.new.self in
    let now : slice_index_or (map (λ r. r.seats) (slice_set c.self.inside.rows.items c.args.cpu.0 n)) c.args.cpu.0 no_seats ≡ n.seats =
    part-now (λ r. r.seats) c.self.inside.rows.items c.args.cpu.0 n no_seats (places-low c.self.inside.rows.items c.args.self.now c.args.cpu.0 c.self.view_is c.requires.cpu) in
    ap (λ x. places (slice_set c.self.inside.rows.items c.args.cpu.0 x)) c.seat.ensures.rest
    ∙ (put-seats c.self.inside.rows.items c.args.self.now c.args.cpu.0 c.index_mut.result.now c.self.view_is c.index_mut.ensures.value c.requires.cpu n.seats ∙ ap (λ x. record c.args.self.now { seats = slice_set c.args.self.now.seats c.args.cpu.0 x }) (sym now))

pub returns-clause-counters : goal.returns-clause-counters
returns-clause-counters g c =
    let n : Place = c.seat.new.self in
    ap (λ x. x.counters) (part-now (λ r. r.seats) c.self.inside.rows.items c.args.cpu.0 n no_seats (places-low c.self.inside.rows.items c.args.self.now c.args.cpu.0 c.self.view_is c.requires.cpu))
    ∙ (c.seat.ensures.counters ∙ ap (λ x. x.counters) (sym (seats-at c.self.inside.rows.items c.args.self.now c.args.cpu.0 c.index_mut.result.now c.self.view_is c.index_mut.ensures.value c.requires.cpu)))

pub returns-clause-added : goal.returns-clause-added
returns-clause-added g c =
    let n : Place = c.seat.new.self in
    let now : slice_index_or (map (λ r. r.seats) (slice_set c.self.inside.rows.items c.args.cpu.0 n)) c.args.cpu.0 no_seats ≡ n.seats =
    part-now (λ r. r.seats) c.self.inside.rows.items c.args.cpu.0 n no_seats (places-low c.self.inside.rows.items c.args.self.now c.args.cpu.0 c.self.view_is c.requires.cpu) in
    subst (λ x. OnOk c.seat.result (x.events ≡ (slice_index_or c.args.self.now.seats c.args.cpu.0 no_seats).events ++ c.args.group.now)) (sym now)
    (subst (λ x. OnOk c.seat.result (n.seats.events ≡ x.events ++ c.args.group.now)) (sym (seats-at c.self.inside.rows.items c.args.self.now c.args.cpu.0 c.index_mut.result.now c.self.view_is c.index_mut.ensures.value c.requires.cpu)) c.seat.ensures.added)

pub returns-clause-assigned : goal.returns-clause-assigned
returns-clause-assigned g c =
    let n : Place = c.seat.new.self in
    let now : slice_index_or (map (λ r. r.seats) (slice_set c.self.inside.rows.items c.args.cpu.0 n)) c.args.cpu.0 no_seats ≡ n.seats =
    part-now (λ r. r.seats) c.self.inside.rows.items c.args.cpu.0 n no_seats (places-low c.self.inside.rows.items c.args.self.now c.args.cpu.0 c.self.view_is c.requires.cpu) in
    subst (λ x. OnOk c.seat.result (IsAssignment (masks_of x.events) x.seats)) (sym now) c.seat.ensures.assigned

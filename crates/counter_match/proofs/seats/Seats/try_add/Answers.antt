use Rattle.std.proofs.{Common.{arith, ◌≡◌, ℕ, false, ◌∙◌, ap, sym, refl, subst, [], ◌∷◌, ◌++◌, length, get_or, is_ok}, lemmas.Bool.{both_ways}}
use Rattle.std.proofs.lemmas.{List.{get_or-map, length-map, take_all}, Result.{err_from_is_err_and}}
use Rattle.perf_base.specs.{declared.numbers.EventNo.{EventNo}, Masks.{IsMask}}
use Rattle.stage_spec.specs.{Fits.{fits}, Tight.{masks_of, tight_set, shortest_unfit}}
use Rattle.counter_match.{specs.{Seating.{slots_of}, Stored.{events_of}}, proofs.Fitting.{fits-IsAssignment}}
use Rattle.counter_match.proofs.Refusal.{unfit_group, shortest_unfit_group}
use Rattle.counter_match.proofs.seats.Seats.try_add.Goals as goal

pub add-requires-clause-mask : goal.add-requires-clause-mask
add-requires-clause-mask g c =
    let n : length (masks_of c.args.group.now) ≡ length c.args.group.now = length-map c.args.group.now (λ e. e.1) in
    let m : c.self.inside.counters ≡ c.args.self.now.counters = ap (λ s. s.counters) c.self.view_is in
    let at : get_or (masks_of c.args.group.now) c.loop-event.event-index 0 ≡ (get_or c.args.group.now c.loop-event.event-index (record { 0 = 0 }, 0)).1 =
    get_or-map (λ (e : EventNo × ℕ). e.1) c.args.group.now c.loop-event.event-index (record { 0 = 0 }, 0) 0 c.loop-event-test.true in
    let P : ℕ → Type 0 = λ mask. IsMask c.self.inside.counters mask in
    let Q : ℕ → Type 0 = λ counters. IsMask counters (get_or (masks_of c.args.group.now) c.loop-event.event-index 0) in
    subst P at (subst Q (sym m) (c.requires.masks c.loop-event.event-index 0 (omega arith)))

pub returns-in_err-add-clause-answer : goal.returns-in_err-add-clause-answer
returns-in_err-add-clause-answer g c =
    let p = err_from_is_err_and c.from_residual.result c.from_residual.ensures.1 in
    let un : fits (masks_of (c.args.self.now.events ++ c.args.group.now)) ≡ false =
    unfit_group c.args.self.now.events c.args.group.now (events_of c.loop-event.seating) c.loop-event.event-index (record { 0 = 0 }, 0) c.loop-event-test.true c.loop-event.invariant.events c.in_err-add.ensures.unfit in
    let bad : is_ok c.from_residual.result ≡ false = ap is_ok p.1 in
    (λ h. absurd (both_ways _ bad h), λ h. absurd (both_ways _ un h))

pub returns-in_err-add-clause-tight : goal.returns-in_err-add-clause-tight
returns-in_err-add-clause-tight g c =
    let p = err_from_is_err_and c.from_residual.result c.from_residual.ensures.1 in
    let i = c.loop-event.invariant in
    let first : shortest_unfit (c.args.self.now.events ++ c.args.group.now) ≡ events_of c.loop-event.seating ++ get_or c.args.group.now c.loop-event.event-index (record { 0 = 0 }, 0) ∷ [] =
    shortest_unfit_group c.args.self.now.events c.args.group.now (events_of c.loop-event.seating) c.loop-event.event-index (record { 0 = 0 }, 0) c.loop-event-test.true i.events
    (fits-IsAssignment _ _ i.seating.assigned) c.in_err-add.ensures.unfit in
    rw (p.1, p.2) (c.in_err-add.ensures.tight ∙ ap (λ es. slots_of (tight_set es)) (sym first))

pub returns-clause-answer : goal.returns-clause-answer
returns-clause-answer g c =
    let i = c.loop-event.invariant in
    let whole : events_of c.loop-event.seating ≡ c.args.self.now.events ++ c.args.group.now = i.events ∙ ap (λ es. c.args.self.now.events ++ es) (take_all c.loop-event.event-index c.args.group.now c.loop-event-test.false) in
    (λ h. ap (λ es. fits (masks_of es)) (sym whole) ∙ fits-IsAssignment _ _ i.seating.assigned, λ h. refl)

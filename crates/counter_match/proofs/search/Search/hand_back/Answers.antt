use Rattle.std.proofs.{Common.{arith, ◌≡◌, ℕ, ◌-◌, length, get_or, set, subst}, lemmas.List.{length-map}}
use Rattle.stage_spec.specs.{Fits.{IsAssignment}, Tight.{masks_of}}
use Rattle.counter_match.{specs.Search.{IsShift}, proofs.Shift.{IsShift-next, IsAssignment-shift}}
use Rattle.counter_match.proofs.search.Search.hand_back.Goals as goal

pub loop-position-preserved : goal.loop-position-preserved
loop-position-preserved c =
    rw (c.deref.ensures.0, c.deref-in-loop-position.ensures.0)
    (IsShift-next (masks_of c.args.events.now) c.args.seats.now c.args.self.now.queue.items c.args.self.now.parents.items c.loop-position.seats c.loop-position.position c.loop-position.counter c.requires.search (omega arith) c.loop-position.invariant)

pub returns : goal.returns
returns c =
    let n : length (masks_of c.args.events.now) ≡ length c.args.events.now = length-map c.args.events.now (λ e. e.1) in
    let z : c.loop-position.position ≡ 0 = omega arith in
    let last : get_or c.args.self.now.queue.items 0 0 ≡ length c.args.events.now - 1 = omega (arith, c.requires.search.first) in
    let P : ℕ → Type 0 = λ p. IsShift (masks_of c.args.events.now) c.args.seats.now c.args.self.now.queue.items c.loop-position.seats p c.loop-position.counter in
    let A : ℕ → Type 0 = λ p. IsAssignment (masks_of c.args.events.now) (set c.loop-position.seats p c.loop-position.counter) in
    subst A last (IsAssignment-shift (masks_of c.args.events.now) c.args.seats.now c.args.self.now.queue.items c.args.self.now.parents.items c.loop-position.seats c.loop-position.counter c.requires.search (subst P z c.loop-position.invariant))

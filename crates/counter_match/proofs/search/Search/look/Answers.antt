use Rattle.std.proofs.{Common.{arith, ◌≡◌, ℕ, ◌<◌, ◌∙◌, List, ap, sym, length, get_or}, lemmas.List.{length-map}}
use Rattle.stage_spec.specs.{Fits.{can_count}, Tight.{masks_of}}
use Rattle.counter_match.proofs.{Looking.{IsLooked, IsLooked-reach, length-search_new}, search.Search.look.{Given.{Over}, Goals.{After-reach}}}
use Rattle.counter_match.proofs.search.Search.look.Goals as goal

pub reach-requires-clause-queue : goal.reach-requires-clause-queue
reach-requires-clause-queue g c f =
    let n : length (masks_of c.args.events.now) ≡ length c.args.events.now = length-map c.args.events.now (λ e. e.1) in
    let lt : length c.args.self.now.queue.items < length (masks_of c.args.events.now) =
    length-search_new (masks_of c.args.events.now) c.args.seats.now _ _ c.in-Some.taken c.requires.search (omega (arith, c.in-Some.ensures.some.0)) f in
    omega arith

looked : (g : Over) (c : After-reach g) → IsLooked (masks_of c.args.events.now) c.args.seats.now c.args.self.now.queue.items c.reach.new.self.queue.items c.reach.new.self.parents.items c.args.counter
looked g c =
    let n : length (masks_of c.args.events.now) ≡ length c.args.events.now = length-map c.args.events.now (λ e. e.1) in
    IsLooked-reach (masks_of c.args.events.now) c.args.seats.now c.args.self.now.queue.items c.args.self.now.parents.items c.reach.new.self.queue.items c.reach.new.self.parents.items
    c.args.position c.in-Some.taken c.args.counter c.requires.search c.requires.position (omega (arith, c.in-Some.ensures.some.0)) c.in-Some.ensures.some.1
    (ap (λ (queue : List ℕ). can_count (get_or (masks_of c.args.events.now) (get_or queue c.args.position 0) 0) c.args.counter) (sym c.deref.ensures.0) ∙ sym c.if-not-can_take.ensures.answer)
    c.reach.ensures.queue c.reach.ensures.parents

pub returns-in-Some-clause-search : goal.returns-in-Some-clause-search
returns-in-Some-clause-search g c = (looked g c).search

pub returns-in-Some-clause-extended : goal.returns-in-Some-clause-extended
returns-in-Some-clause-extended g c = (looked g c).extended

pub returns-in-Some-clause-held : goal.returns-in-Some-clause-held
returns-in-Some-clause-held g c f can = (looked g c).held

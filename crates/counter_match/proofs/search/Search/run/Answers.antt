use Rattle.std.proofs.Common.{rules}
use Rattle.std.proofs.{Common.{arith, ◌≡◌, ◌<◌, ◌≤◌, ◌∙◌, length}, lemmas.List.{length-map}}
use Rattle.stage_spec.specs.Tight.{masks_of}
use Rattle.counter_match.proofs.{Fitting.{can_count-below}, Growth.{IsClosedBelow-extended, IsClosedBelow-more, length-search}}
use Rattle.counter_match.proofs.Looking.{IsClosedAt-all}
use Rattle.counter_match.proofs.search.Search.run.Goals as goal

pub returns-in-Some-clause-most : goal.returns-in-Some-clause-most
returns-in-Some-clause-most g c =
    let i = c.loop-position.invariant in
    let n : length (masks_of c.args.events.now) ≡ length c.args.events.now = length-map c.args.events.now (λ e. e.1) in
    let l : length c.loop-position.self.queue.items ≤ length (masks_of c.args.events.now) = length-search (masks_of c.args.events.now) c.args.seats.now _ c.loop-position.self.parents.items i.search in
    omega (arith, i.most, c.look_at.ensures.most)

pub loop-position-smaller : goal.loop-position-smaller
loop-position-smaller g c =
    let i = c.loop-position.invariant in
    let n : length (masks_of c.args.events.now) ≡ length c.args.events.now = length-map c.args.events.now (λ e. e.1) in
    let l : length c.loop-position.self.queue.items ≤ length (masks_of c.args.events.now) = length-search (masks_of c.args.events.now) c.args.seats.now _ c.loop-position.self.parents.items i.search in
    omega arith

pub loop-position-preserved : goal.loop-position-preserved
loop-position-preserved g c =
    let i = c.loop-position.invariant in
    let e = c.in_default.ensures in
    let here : c.loop-position.position < length c.loop-position.self.queue.items = omega arith in
    let there : c.loop-position.position < length c.look_at.new.self.queue.items = omega (arith, c.look_at.ensures.extended.longer) in
    record {
      search = c.look_at.ensures.search;
      first = c.look_at.ensures.extended.same 0 (omega arith) ∙ i.first;
      closed = IsClosedBelow-more c.loop-position.position (masks_of c.args.events.now) c.args.seats.now c.look_at.new.self.queue.items
          (IsClosedBelow-extended c.loop-position.position (masks_of c.args.events.now) c.args.seats.now c.loop-position.self.queue.items c.look_at.new.self.queue.items (omega arith) c.look_at.ensures.extended i.closed)
          (IsClosedAt-all c.loop-position.position c.args.counters (masks_of c.args.events.now) c.args.seats.now c.look_at.new.self.queue.items c.look_at.new.self.parents.items c.look_at.ensures.search there c.requires.masks e.held)
          can_count-below;
      within = omega arith;
      least = omega (arith, i.least, c.look_at.ensures.least);
      most = omega (arith, i.most, c.look_at.ensures.most);
    }

pub returns-clause-most : goal.returns-clause-most
returns-clause-most g c =
    let i = c.loop-position.invariant in
    let n : length (masks_of c.args.events.now) ≡ length c.args.events.now = length-map c.args.events.now (λ e. e.1) in
    let l : length c.loop-position.self.queue.items ≤ length (masks_of c.args.events.now) = length-search (masks_of c.args.events.now) c.args.seats.now _ c.loop-position.self.parents.items i.search in
    omega (arith, i.most, i.within)

pub returns-clause-closed : goal.returns-clause-closed
returns-clause-closed g c = search rules

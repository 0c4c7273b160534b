use Rattle.std.proofs.{Common.{arith, ◌≡◌, ℕ, ◌-◌, ◌∙◌, ap, sym, length, get_or, map, take, subst}, lemmas.List.{length-map}}
use Rattle.perf_base.specs.declared.numbers.EventNo.{EventNo}
use Rattle.stage_spec.specs.Tight.{masks_of}
use Rattle.counter_match.{specs.Search.{SeatsAllBut}, proofs.Tightness.{unfit, tight_set-picked}}
use Rattle.counter_match.proofs.search.seat_last.Goals as goal

pub returns-in-None-clause-unfit : goal.returns-in-None-clause-unfit
returns-in-None-clause-unfit g c =
    unfit (masks_of c.args.events.now) (take (length c.args.events.now) c.args.seats.now) c.run.new.self.queue.items c.run.new.self.parents.items c.run.ensures.search c.in-None.ensures.closed

pub returns-in-None-clause-tight : goal.returns-in-None-clause-tight
returns-in-None-clause-tight g c =
    let S : ℕ → Type 0 = λ gap. SeatsAllBut gap (masks_of c.args.events.now) (take (length c.args.events.now) c.args.seats.now) in
    let n : length (masks_of c.args.events.now) ≡ length c.args.events.now = length-map c.args.events.now (λ e. e.1) in
    let first : length c.args.events.now - 1 ≡ get_or c.run.new.self.queue.items 0 0 = omega (arith, c.run.ensures.search.first) in
    c.reached.ensures ∙ ap (map (λ (event : EventNo × ℕ). event.0))
    (sym (tight_set-picked c.args.events.now (take (length c.args.events.now) c.args.seats.now) c.run.new.self.queue.items c.run.new.self.parents.items (subst S first c.requires.seats) c.run.ensures.search c.in-None.ensures.closed))

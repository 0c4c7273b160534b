use Rattle.std.{specs.Prelude.{All}, proofs.Common.{arith, ◌≡◌, ℕ, ◌+◌, ◌<◌, ◌≤◌, ◌∙◌, ap, sym, subst, [], ◌∷◌, ◌++◌, List, length, take, slice_set}}
use Rattle.std.proofs.lemmas.List.{take_more_set, length-take-le, length-map, map-append, length-set, Elements.{All-push}}
use Rattle.perf_base.specs.{declared.numbers.EventNo.{EventNo}, Masks.{IsMask}}
use Rattle.stage_spec.specs.{Fits.{IsAssignment}, Tight.{masks_of}}
use Rattle.counter_match.proofs.Assigned.{length-assigned}
use Rattle.counter_match.proofs.seating.Seating.add.Goals as goal

pub returns-clause-seating : goal.returns-clause-seating
returns-clause-seating g c =
    let self = c.args.self.now in
    let seated = c.in_ok-seat_last.ensures.seated in
    let place : self.used < length self.events = omega (arith, c.requires.seating.few) in
    let events : take (self.used + 1) (slice_set self.events self.used c.args.event) ≡ take self.used self.events ++ c.args.event ∷ [] = take_more_set self.events self.used c.args.event place in
    let n : length (take (self.used + 1) (slice_set self.events self.used c.args.event)) ≡ self.used + 1 = length-take-le (self.used + 1) (slice_set self.events self.used c.args.event) (omega (arith, length-set self.events self.used c.args.event)) in
    let A : ℕ → Type 0 = λ k. IsAssignment (masks_of (take (self.used + 1) (slice_set self.events self.used c.args.event))) (take k c.seat_last.new.seats) in
    let M : List ℕ → Type 0 = λ ms. All (IsMask c.args.counters) ms in
    let few : length (masks_of (take (self.used + 1) (slice_set self.events self.used c.args.event))) ≤ 16 = length-assigned _ _ seated in
    record {
      few = omega (arith, length-map (take (self.used + 1) (slice_set self.events self.used c.args.event)) (λ e. e.1));
      assigned = subst A n seated;
      masks = subst M (sym (ap masks_of events ∙ map-append (λ (e : EventNo × ℕ). e.1) (take self.used self.events) (c.args.event ∷ [])))
          (All-push (IsMask c.args.counters) (masks_of (take self.used self.events)) c.args.event.1 c.requires.seating.masks c.requires.mask);
    }

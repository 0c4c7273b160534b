use Rattle.std.{specs.{Prelude.{nat_eq}, List.{list_any}}, proofs.{Common.{arith, ℕ, ◌∙◌, ap, sym, length}, lemmas.List.{length_push}}}
use Rattle.perf_base.specs.declared.numbers.EventNo.{EventNo}
use Rattle.counter_match.proofs.{Picking.{picked_yes, picked_no}, search.Search.reached.Goals.{then-has_reached, else-has_reached}}
use Rattle.counter_match.proofs.search.Search.reached.Goals as goal

pub loop-place-preserved : goal.loop-place-preserved
loop-place-preserved c =
    elim c.if-has_reached.branch [
      | then-has_reached w ↦ record {
        all = picked_yes (λ (event : EventNo × ℕ). event.0) (λ place. list_any (nat_eq place) c.args.self.now.queue.items) c.loop-place.place c.args.events.now (record { 0 = 0 }, 0)
            c.loop-place.tight c.if-has_reached.tight _ c.loop-place-test.true (sym w.if-has_reached.ensures) (w.tight-is ∙ w.push.ensures) c.loop-place.invariant.all;
        few = omega (arith, c.loop-place.invariant.few, length_push c.loop-place.tight, ap length (w.tight-is ∙ w.push.ensures));
      }
      | else-has_reached w ↦ record {
        all = picked_no (λ (event : EventNo × ℕ). event.0) (λ place. list_any (nat_eq place) c.args.self.now.queue.items) c.loop-place.place c.args.events.now (record { 0 = 0 }, 0)
            c.loop-place.tight c.if-has_reached.tight _ c.loop-place-test.true (sym w.if-has_reached.ensures) w.tight-is c.loop-place.invariant.all;
        few = omega (arith, c.loop-place.invariant.few, ap length w.tight-is);
      }
    ]

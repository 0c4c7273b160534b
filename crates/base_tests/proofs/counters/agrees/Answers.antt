use Rattle.std.{specs.Prelude.{All}, proofs.Common.{ℕ, ◌-◌, ◌∙◌, ap, sym, subst, List, ◌++◌, length, take, drop}}
use Rattle.perf_base.specs.{declared.numbers.EventNo.{EventNo}, Masks.{IsMask}}
use Rattle.stage_spec.specs.Tight.{masks_of}
use Rattle.counter_match.{specs.Seating.{AreDistinct}, proofs.Trials.{AreDistinct-take, masks-take, masks-part}}
use Rattle.base_tests.proofs.counters.agrees.Goals as goal

pub try_add-requires-clause-distinct : goal.try_add-requires-clause-distinct
try_add-requires-clause-distinct g c =
    let D : List (EventNo × ℕ) → Type 0 = λ before. AreDistinct (before ++ take c.args.split c.args.events.now) in
    subst D (sym (ap (λ s. s.events) c.new-seats.ensures)) (AreDistinct-take c.args.split c.args.events.now c.requires.distinct)

pub try_add-requires-clause-masks : goal.try_add-requires-clause-masks
try_add-requires-clause-masks g c =
    let M : ℕ → Type 0 = λ counters. All (IsMask counters) (masks_of (take c.args.split c.args.events.now)) in
    subst M (sym (ap (λ s. s.counters) c.new-seats.ensures)) (masks-take c.args.counters c.args.split c.args.events.now c.args.masks.now c.requires.same c.requires.masks)

pub try_add-answer-requires-clause-masks : goal.try_add-answer-requires-clause-masks
try_add-answer-requires-clause-masks g c =
    let M : ℕ → Type 0 = λ counters. All (IsMask counters) (masks_of (take (length c.args.events.now - c.args.split) (drop c.args.split c.args.events.now))) in
    subst M (sym (c.try_add.ensures.counters ∙ ap (λ s. s.counters) c.new-seats.ensures))
    (masks-part c.args.counters c.args.split (length c.args.events.now - c.args.split) c.args.events.now c.args.masks.now c.requires.same c.requires.masks)

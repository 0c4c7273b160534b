-- What the tests need of lists of events.
use Rattle.std.{specs.Prelude.{All}, proofs.Common.{◌≡◌, ℕ, zero, suc, List, [], ◌∷◌, take, drop, refl, sym, ap, ◌∙◌, arith, subst, length-take}}
use Rattle.std.proofs.lemmas.List.{get_or-take, take-map, Elements.{All-take, All-drop}}
use Rattle.perf_base.specs.{declared.numbers.EventNo.{EventNo}, Masks.{IsMask}}
use Rattle.stage_spec.specs.Tight.{masks_of}
use Rattle.counter_match.specs.Seating.{AreDistinct}

pub AreDistinct-take : (n : ℕ) (events : List (EventNo × ℕ)) → AreDistinct events → AreDistinct (take n events)
AreDistinct-take n events h i j d l m e = grind (arith, length-take, ℕ, get_or-take)

masks_of-drop : (n : ℕ) (events : List (EventNo × ℕ)) → masks_of (drop n events) ≡ drop n (masks_of events)
masks_of-drop zero events = refl
masks_of-drop (suc n) [] = refl
masks_of-drop (suc n) (x ∷ events) = masks_of-drop n events

pub masks-take : (counters n : ℕ) (events : List (EventNo × ℕ)) (masks : List ℕ) → masks_of events ≡ masks → All (IsMask counters) masks → All (IsMask counters) (masks_of (take n events))
masks-take counters n events masks e h =
    let A : List ℕ → Type 0 = λ ms. All (IsMask counters) ms in
    subst A (ap (take n) (sym e) ∙ take-map (λ (x : EventNo × ℕ). x.1) n events) (All-take (IsMask counters) n masks h)

pub masks-part : (counters n k : ℕ) (events : List (EventNo × ℕ)) (masks : List ℕ) → masks_of events ≡ masks → All (IsMask counters) masks → All (IsMask counters) (masks_of (take k (drop n events)))
masks-part counters n k events masks e h = masks-take counters k (drop n events) (drop n masks) (masks_of-drop n events ∙ ap (drop n) e) (All-drop (IsMask counters) n masks h)

-- Two ends that have heard of each other know the same looks.
use Rattle.std.proofs.Common.{◌≡◌, ℕ, List, ap, ◌∙◌, subst}
use mathlib.Core.List.{IsPrefix}
use Rattle.user_page.{specs.{declared.look.Look.{Look}, Views.{Holder, informed, looked, checked}}, proofs.Lists.{prefix_both}}

-- The writer m and the watcher w. The watcher hears, and they are m1 and w1. The writer hears, and they are m2 and w2.
module _ (m w m1 w1 m2 w2 : Holder) (place : ℕ)
    (kept : m1 ≡ m)
    (view : w1.0 ≡ looked (informed w.0 m.0.looks) w1.0.looks place)
    (all : IsPrefix m.0.looks w1.0.looks)
    (kept' : w2 ≡ w1)
    (view' : m2 ≡ (checked (informed m1.0 w1.0.looks), m1.1))
    (all' : IsPrefix w1.0.looks m1.0.looks) where
  pub all_seen : w1.0.looks ≡ m.0.looks
  all_seen = let P : Holder → Type 0 = λ h. IsPrefix w1.0.looks h.0.looks in prefix_both w1.0.looks m.0.looks (subst P kept all') all

  pub writer_met : m2 ≡ (checked (informed m.0 m.0.looks), m.1)
  writer_met =
      view' ∙ ap (λ (h : Holder). (checked (informed h.0 w1.0.looks), h.1)) kept ∙ ap (λ (l : List Look). (checked (informed m.0 l), m.1)) all_seen

  pub watcher_met : w2.0 ≡ looked (informed w.0 m.0.looks) m.0.looks place
  watcher_met = ap (λ (h : Holder). h.0) kept' ∙ view ∙ ap (λ (l : List Look). looked (informed w.0 m.0.looks) l place) all_seen

-- inner
-- How the list of published looks grows, act by act, and which looks it has. This project's own profile.
use Rattle.std.specs.Prelude.{◌≡◌, ℕ, ◌<◌, ◌≤◌, ◌⊎◌, ◌↔◌, true, List, [], ◌∷◌, ◌++◌, length, All, AllPairs, Contains}
use mathlib.Core.List.{IsPrefix}
use Rattle.perf_base.specs.{declared.{numbers.{EventNo.{EventNo}, RingNo.{RingNo}}, acts.Act.{Act}}, Scripts.{Scripted}}
use Rattle.perf_base.specs.declared.acts.Act.TheVariants as act
use Rattle.user_page.specs.{declared.look.Look.{Look}, Looks.{zero_look, MayFollow, IsLookList}}
use Rattle.report_spec.specs.Published.{look_after, publishes, looks_by, published_looks}

-- Before the first act there is one look, of zeros. One more act adds what it publishes.
abbrev pub NoActsLaw : Type 0
NoActsLaw = (s : Scripted) (e : EventNo) → published_looks s [] e ≡ zero_look ∷ []

abbrev pub OneMoreLaw : Type 0
OneMoreLaw = (s : Scripted) (order : List Act) (a : Act) (e : EventNo) → published_looks s (order ++ a ∷ []) e ≡ published_looks s order e ++ looks_by s order a e

-- A look at a ring adds none.
abbrev pub RingsLaw : Type 0
RingsLaw = (s : Scripted) (order : List Act) (ring : RingNo) (place : ℕ) (e : EventNo)
    → published_looks s (order ++ act.Seen ring place ∷ []) e ≡ published_looks s order e

-- The looks over a front of an order begin those over the order.
abbrev pub FrontsLaw : Type 0
FrontsLaw = (s : Scripted) (front rest : List Act) (e : EventNo) → IsPrefix (published_looks s front e) (published_looks s (front ++ rest) e)

-- The list is never empty, and each look is of more acts than those before it.
abbrev pub RisesLaw : Type 0
RisesLaw = (s : Scripted) (order : List Act) (e : EventNo)
    → IsLookList (published_looks s order e) × AllPairs (λ a b. a.at < b.at) (published_looks s order e)

-- No look is of more acts than were done, so a page takes the look after one more act.
abbrev pub FollowsLaw : Type 0
FollowsLaw = (s : Scripted) (order : List Act) (a : Act) (e : EventNo)
    → All (λ look. look.at ≤ length order) (published_looks s order e) × MayFollow (published_looks s order e) (look_after s (order ++ a ∷ []) e)

-- Some act of an order publishes this look: it is the look after the acts up to that one.
pub record IsPublished (s : Scripted) (order : List Act) (e : EventNo) (look : Look) : Type 0 where
  pub before : List Act
  pub a : Act
  pub after : List Act
  pub order_is : order ≡ before ++ a ∷ after
  pub published : publishes s before a e ≡ true
  pub look_is : look ≡ look_after s (before ++ a ∷ []) e

-- The list has the look of zeros and those that acts of the order publish, and no other.
abbrev pub EachLookLaw : Type 0
EachLookLaw = (s : Scripted) (order : List Act) (e : EventNo) (look : Look)
    → Contains (published_looks s order e) look ↔ ((look ≡ zero_look) ⊎ IsPublished s order e look)

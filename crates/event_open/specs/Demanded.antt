-- inner
-- The counters that events ask for: each hardware event with its mask. This project's own profile.
use Rattle.std.specs.Prelude.{ℕ, ◌≤◌, List, [], ◌∷◌, ◌++◌, All, filter, if◌then◌else◌}
use Rattle.perf_base.specs.{Masks.{IsMask}, declared.{attr.Kind.{Kind}, numbers.EventNo.{EventNo}}}
use Rattle.stage_spec.specs.{declared.instance.Instance.{Instance}, Effective.{is_hardware}, Hardware.{Hardware, is_software, mask_of}}
use Rattle.stage_spec.specs.{Tight.{masks_of}, Verdict.{with_masks}}

-- of one event by its kind, of some instances, and of both
abbrev pub demanded_by : Hardware → EventNo → Kind → List (EventNo × ℕ)
demanded_by hw e k = if is_software k then [] else (e, mask_of hw k) ∷ []

abbrev pub demanded : Hardware → List Instance → List (EventNo × ℕ)
demanded hw instances = with_masks hw (filter is_hardware instances)

abbrev pub demanded_with : Hardware → List Instance → EventNo → Kind → List (EventNo × ℕ)
demanded_with hw instances e k = demanded hw instances ++ demanded_by hw e k

-- they are eight at most, and each mask names some of 16 counters
pub record AreDemands (used : ℕ) (events : List (EventNo × ℕ)) : Type 0 where
  pub few : used ≤ 8
  pub masks : All (IsMask 16) (masks_of events)

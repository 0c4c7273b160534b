-- believed
-- Which events are to blame where a list of events does not fit. This project's own profile, after Hall's
-- theorem. An event stands with its mask.
use Rattle.std.specs.{Prelude.{◌≡◌, ℕ, ◌+◌, true, false, IsTrue, List, [], ◌∷◌, ◌++◌, length, map, count_by, if◌then◌else◌}, List.{list_any}}
use Rattle.perf_base.specs.declared.numbers.EventNo.{EventNo}
use Rattle.stage_spec.specs.Fits.{can_count, fits}

-- the masks of events
abbrev pub masks_of : List (EventNo × ℕ) → List ℕ
masks_of events = map (λ event. event.1) events

-- of the events after some others, those without which all of them fit
unfoldable pub tight_after : List (EventNo × ℕ) → List (EventNo × ℕ) → List (EventNo × ℕ)
tight_after before [] = []
tight_after before (event ∷ rest) =
    (if fits (masks_of (before ++ rest)) then event ∷ [] else []) ++ tight_after (before ++ event ∷ []) rest

-- the tight set of a list that does not fit though it does without its last event: the events without which the
-- list fits, in list order
unfoldable pub tight_set : List (EventNo × ℕ) → List (EventNo × ℕ)
tight_set events = tight_after [] events

-- the shortest beginning, longer than `before`, of a list that does not fit; all of the list where it fits
unfoldable pub unfit_after : List (EventNo × ℕ) → List (EventNo × ℕ) → List (EventNo × ℕ)
unfit_after before [] = before
unfit_after before (event ∷ rest) =
    elim (fits (masks_of (before ++ event ∷ []))) [
      | true ↦ unfit_after (before ++ event ∷ []) rest
      | false ↦ before ++ event ∷ []
    ]

-- the shortest beginning of a list that does not fit; all of it where it fits
unfoldable pub shortest_unfit : List (EventNo × ℕ) → List (EventNo × ℕ)
shortest_unfit events = unfit_after [] events

-- the counters of a processor, and how many of them some mask of the list has
abbrev pub all_counters : List ℕ
all_counters = 0 ∷ 1 ∷ 2 ∷ 3 ∷ 4 ∷ 5 ∷ 6 ∷ 7 ∷ 8 ∷ 9 ∷ 10 ∷ 11 ∷ 12 ∷ 13 ∷ 14 ∷ 15 ∷ []

unfoldable pub allowed_count : List ℕ → ℕ
allowed_count masks = count_by (λ counter. list_any (λ mask. can_count mask counter) masks) all_counters

-- The law of tight sets: where a list does not fit though it does without its last event, the members of its tight
-- set have in all exactly one allowed counter fewer than there are members.
abbrev pub TightLaw : Type 0
TightLaw = (events : List (EventNo × ℕ)) (last : EventNo × ℕ)
    → IsTrue (fits (masks_of events)) → fits (masks_of (events ++ last ∷ [])) ≡ false
    → allowed_count (masks_of (tight_set (events ++ last ∷ []))) + 1 ≡ length (tight_set (events ++ last ∷ []))

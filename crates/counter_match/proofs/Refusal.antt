-- Where an event of a group does not fit on a seating, the group does not.
use Rattle.std.proofs.Common.{◌≡◌, ℕ, ◌+◌, ◌<◌, true, false, List, [], ◌∷◌, ◌++◌, length, get_or, take, drop, sym, ap, ◌∙◌, append_assoc}
use Rattle.std.proofs.lemmas.{Bool.{false_from_ne_true, both_ways}, List.{take-append-drop, drop_more}}
use Rattle.perf_base.specs.declared.numbers.EventNo.{EventNo}
use Rattle.stage_spec.specs.{Fits.{fits}, Tight.{masks_of, shortest_unfit}}
use Rattle.counter_match.proofs.Assigned.{fits-front_events, shortest_unfit-first}

-- the list with the group is the events seated so far, the next one and the rest
pub split_at : (old group events : List (EventNo × ℕ)) (i : ℕ) (d : EventNo × ℕ) → i < length group → events ≡ old ++ take i group → old ++ group ≡ events ++ get_or group i d ∷ drop (i + 1) group
split_at old group events i d l e =
    ap (λ g. old ++ g) (sym (take-append-drop i group)) ∙ (sym (append_assoc old (take i group) (drop i group))
    ∙ (ap (λ g. (old ++ take i group) ++ g) (drop_more group i d l) ∙ ap (λ es. es ++ get_or group i d ∷ drop (i + 1) group) (sym e)))

pub unfit_group : (old group events : List (EventNo × ℕ)) (i : ℕ) (d : EventNo × ℕ) → i < length group → events ≡ old ++ take i group
    → fits (masks_of (events ++ get_or group i d ∷ [])) ≡ false → fits (masks_of (old ++ group)) ≡ false
unfit_group old group events i d l e un =
    false_from_ne_true _ (λ h. both_ways _ un (fits-front_events (events ++ get_or group i d ∷ []) (drop (i + 1) group)
    (ap (λ es. fits (masks_of es)) (append_assoc events (get_or group i d ∷ []) (drop (i + 1) group) ∙ sym (split_at old group events i d l e)) ∙ h)))

pub shortest_unfit_group : (old group events : List (EventNo × ℕ)) (i : ℕ) (d : EventNo × ℕ) → i < length group → events ≡ old ++ take i group
    → fits (masks_of events) ≡ true → fits (masks_of (events ++ get_or group i d ∷ [])) ≡ false → shortest_unfit (old ++ group) ≡ events ++ get_or group i d ∷ []
shortest_unfit_group old group events i d l e fit un =
    ap shortest_unfit (split_at old group events i d l e) ∙ shortest_unfit-first events (get_or group i d) (drop (i + 1) group) fit un

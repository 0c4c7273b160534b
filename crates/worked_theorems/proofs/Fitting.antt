-- Which events fit on counters, and which of them are the tight set where they do not.
use Rattle.std.proofs.Common.{◌≡◌, ℕ, true, false, List, [], ◌∷◌, refl}
use Rattle.perf_base.specs.declared.numbers.EventNo.{EventNo}
use Rattle.stage_spec.specs.Fits.{fits, fits_beside, fits_below}
use Rattle.stage_spec.specs.Tight.{masks_of, tight_set, tight_after, shortest_unfit, unfit_after, allowed_count}

pub event : ℕ → ℕ → EventNo × ℕ
event slot mask = (record { 0 = slot }, mask)

-- two events that want the same counter of three, and one that does not
pub three : List (EventNo × ℕ)
three = event 0 1 ∷ event 1 6 ∷ event 2 1 ∷ []

pub two_fit : fits (1 ∷ 6 ∷ []) ≡ true
unfolding fits fits_beside fits_below
two_fit = refl

pub three_unfit : fits (masks_of three) ≡ false
unfolding fits fits_beside fits_below three event
three_unfit = refl

pub three_tight : tight_set three ≡ event 0 1 ∷ event 2 1 ∷ []
unfolding fits fits_beside fits_below tight_set tight_after three event
three_tight = refl

pub three_allowed : allowed_count (masks_of (tight_set three)) ≡ 1
unfolding fits fits_beside fits_below tight_set tight_after allowed_count three event
three_allowed = refl

-- an event that can move, and one that makes it move
pub moved_fits : fits (3 ∷ 1 ∷ []) ≡ true
unfolding fits fits_beside fits_below
moved_fits = refl

-- the beginning that does not fit ends before the list does
pub first_unfit : shortest_unfit (event 0 3 ∷ event 1 1 ∷ event 2 2 ∷ event 3 3 ∷ []) ≡ event 0 3 ∷ event 1 1 ∷ event 2 2 ∷ []
unfolding fits fits_beside fits_below shortest_unfit unfit_after event
first_unfit = refl

-- sixteen events on sixteen counters
pub sixteen : List ℕ
sixteen = 65535 ∷ 65535 ∷ 65535 ∷ 65535 ∷ 65535 ∷ 65535 ∷ 65535 ∷ 65535 ∷ 65535 ∷ 65535 ∷ 65535 ∷ 65535 ∷ 65535 ∷ 65535 ∷ 65535 ∷ 65535 ∷ []

pub sixteen_fit : fits sixteen ≡ true
unfolding fits fits_beside fits_below sixteen
sixteen_fit = refl

-- believed
-- The first reason that holds. Why a line is refused goes by the first of the reasons in their order, which
-- perf_event_open(2) leaves open and this project's own profile fixes.
use Rattle.std.specs.Prelude.{Bool, false, List, find, Option, Some, None, option_map}
use Rattle.perf_base.specs.declared.reasons.Reason.{Reason}

-- of reasons in their order, each with whether it holds, the first that does
abbrev pub first_of : List (Reason × Bool) → Option Reason
first_of faults = option_map (λ f. f.0) (find (λ f. f.1) faults)

-- whether a test holds of what is there, and whether one of two things holds where both are there
abbrev pub holds_of : {X : Type 0} → (X → Bool) → Option X → Bool
holds_of test None = false
holds_of test (Some x) = test x

abbrev pub holds_of_both : {X : Type 0} → (X → X → Bool) → Option X → Option X → Bool
holds_of_both test (Some x) (Some y) = test x y
holds_of_both test (Some x) None = false
holds_of_both test None y = false

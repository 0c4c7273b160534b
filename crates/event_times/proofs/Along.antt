-- The times along stretches, from any times at the first turn.
use Rattle.std.proofs.{Common.{◌≡◌, ℕ, ◌+◌, ◌-◌, Bool, true, false, List, [], ◌∷◌, refl, ap, ◌∙◌, arith}, lemmas.List.Sums.{sum_by-cons}}
use Rattle.std.specs.Prelude.{if◌then◌else◌}
use Rattle.event_times.specs.Times.{Times, fresh_times, enabled_at, running_at, turned}
use Rattle.event_times.specs.Stretches.{Stretch, StretchLaw, turned_along, over_at, ready_for, on_for}

since : (b : Bool) (clock n : ℕ) → (if b then clock + n - clock else 0) ≡ (if b then n else 0)
since true clock n = omega arith
since false clock n = refl

enabled-along : (stretches : List Stretch) (clock : ℕ) (t : Times)
    → enabled_at (over_at clock stretches) (turned_along clock stretches t) ≡ enabled_at clock t + ready_for stretches
enabled-along [] clock t = ap (λ c. enabled_at c t) (let e : clock + 0 ≡ clock = omega arith in e) ∙ omega arith
enabled-along (s ∷ rest) clock t =
    let later = enabled-along rest (clock + s.length) (turned clock s.ready s.on t) in
    let same : over_at clock (s ∷ rest) ≡ over_at (clock + s.length) rest = omega (arith, sum_by-cons (λ x. x.length) s rest) in
    ap (λ c. enabled_at c (turned_along clock (s ∷ rest) t)) same
    ∙ omega (arith, later, since s.ready clock s.length, sum_by-cons (λ x. if x.ready then x.length else 0) s rest)

running-along : (stretches : List Stretch) (clock : ℕ) (t : Times)
    → running_at (over_at clock stretches) (turned_along clock stretches t) ≡ running_at clock t + on_for stretches
running-along [] clock t = ap (λ c. running_at c t) (let e : clock + 0 ≡ clock = omega arith in e) ∙ omega arith
running-along (s ∷ rest) clock t =
    let later = running-along rest (clock + s.length) (turned clock s.ready s.on t) in
    let same : over_at clock (s ∷ rest) ≡ over_at (clock + s.length) rest = omega (arith, sum_by-cons (λ x. x.length) s rest) in
    ap (λ c. running_at c (turned_along clock (s ∷ rest) t)) same
    ∙ omega (arith, later, since s.on clock s.length, sum_by-cons (λ x. if x.on then x.length else 0) s rest)

pub stretch_law : StretchLaw
stretch_law clock stretches =
    (omega (arith, enabled-along stretches clock fresh_times), omega (arith, running-along stretches clock fresh_times))

-- inner
-- Short lists that are kept in an array whose unused places have one filling. This project's own profile.
use Rattle.std.{specs.Prelude.{◌≡◌, ℕ, ◌-◌, ◌≤◌, List, ◌++◌, length, take, drop, replicate}, proofs.Common.{arith, refl}}
use Rattle.std.proofs.lemmas.List.{length-take-le, take-append-drop}

-- what an array of `room` places holds: the list's length in use, and the filling elsewhere
pub record IsPadded {X : Type 0} (room : ℕ) (filling : X) (places : List X) (used : ℕ) : Type 0 where
  pub whole : length places ≡ room
  pub within : used ≤ room
  pub unused : drop used places ≡ replicate (room - used) filling

-- the places for a list
abbrev pub padded : {X : Type 0} → ℕ → X → List X → List X
padded room filling xs = xs ++ replicate (room - length xs) filling

-- the places and the length are those of the list in use
pub padded_again : {X T : Type 0} (make : List X → ℕ → T) (room : ℕ) (filling : X) (places : List X) (used : ℕ)
    → IsPadded room filling places used → make (padded room filling (take used places)) (length (take used places)) ≡ make places used
padded_again make room filling places used h =
    let fits : used ≤ length places = omega (arith, h.whole, h.within) in
    let n : length (take used places) ≡ used = length-take-le used places fits in
    rw n (rw (← h.unused) (rw take-append-drop refl))

-- Masks that fit together fit also without some of them.
use Rattle.std.{specs.{Prelude.{◌≡◌, ℕ, zero, suc, Bool, true, false, not, ◌&&◌, ◌||◌, nat_eq, List, [], ◌∷◌}, List.{list_any}}, proofs.Common.{refl}}
use Rattle.std.proofs.lemmas.Bool.{false≢true, or_right}
use Rattle.stage_spec.specs.Fits.{can_count, fits_below, fits_beside}

-- each counter that is taken here is taken there
abbrev AreTaken : List ℕ → List ℕ → Type 0
AreTaken here there = (c : ℕ) → list_any (nat_eq c) here ≡ true → list_any (nat_eq c) there ≡ true

or-more : (t a b : Bool) → (a ≡ true → b ≡ true) → (t || a) ≡ true → (t || b) ≡ true
or-more true a b f h = h
or-more false a b f h = f h

AreTaken-cons : (c : ℕ) (here there : List ℕ) → AreTaken here there → AreTaken (c ∷ here) (c ∷ there)
AreTaken-cons c here there h d = or-more (nat_eq d c) (list_any (nat_eq d) here) (list_any (nat_eq d) there) (h d)

AreTaken-push : (c : ℕ) (taken : List ℕ) → AreTaken taken (c ∷ taken)
AreTaken-push c taken d = or_right (nat_eq d c) (list_any (nat_eq d) taken)

-- a counter that is tried: it is free, the others fit beside it, or else a lower one serves
abbrev try : (free others lower : Bool) → Bool
try free others lower = elim free [ true ↦ elim others [ true ↦ true | false ↦ lower ] | false ↦ lower ]

try_lower : (free others : Bool) → try free others true ≡ true
try_lower true true = refl
try_lower true false = refl
try_lower false others = refl

try-more : (free others lower free_now others_now lower_now : Bool) → (free ≡ true → free_now ≡ true) → (others ≡ true → others_now ≡ true) → (lower ≡ true → lower_now ≡ true)
    → try free others lower ≡ true → try free_now others_now lower_now ≡ true
try-more true true lower free_now others_now lower_now f g h k = rw (f refl, g refl) refl
try-more true false lower free_now others_now lower_now f g h k = rw (h k) (try_lower free_now others_now)
try-more false others lower free_now others_now lower_now f g h k = rw (h k) (try_lower free_now others_now)

try-any : (R : Type 0) (free others lower : Bool) → (others ≡ true → R) → (lower ≡ true → R) → try free others lower ≡ true → R
try-any R true true lower f g h = f refl
try-any R true false lower f g h = g h
try-any R false others lower f g h = g h

free-more : (allowed here there : Bool) → (here ≡ true → there ≡ true) → (allowed && not there) ≡ true → (allowed && not here) ≡ true
free-more false here there f h = h
free-more true true true f h = h
free-more true true false f h = absurd (false≢true (f refl))
free-more true false there f h = refl

fits_below-more : (n mask : ℕ) (others others_now : List ℕ → Bool) (here there : List ℕ) → AreTaken here there
    → ((c : ℕ) → others (c ∷ there) ≡ true → others_now (c ∷ here) ≡ true) → fits_below n others mask there ≡ true → fits_below n others_now mask here ≡ true
unfolding fits_below
fits_below-more zero mask others others_now here there less more h = absurd (false≢true h)
fits_below-more (suc n) mask others others_now here there less more h =
    try-more (can_count mask n && not (list_any (nat_eq n) there)) (others (n ∷ there)) (fits_below n others mask there)
    (can_count mask n && not (list_any (nat_eq n) here)) (others_now (n ∷ here)) (fits_below n others_now mask here)
    (free-more (can_count mask n) (list_any (nat_eq n) here) (list_any (nat_eq n) there) (less n)) (more n)
    (fits_below-more n mask others others_now here there less more) h

fits_below-any : (R : Type 0) (n mask : ℕ) (others : List ℕ → Bool) (taken : List ℕ) → ((c : ℕ) → others (c ∷ taken) ≡ true → R) → fits_below n others mask taken ≡ true → R
unfolding fits_below
fits_below-any R zero mask others taken f h = absurd (false≢true h)
fits_below-any R (suc n) mask others taken f h =
    try-any R (can_count mask n && not (list_any (nat_eq n) taken)) (others (n ∷ taken)) (fits_below n others mask taken) (f n) (fits_below-any R n mask others taken f) h

-- with fewer counters taken
fits_beside-fewer : (masks here there : List ℕ) → AreTaken here there → fits_beside masks there ≡ true → fits_beside masks here ≡ true
unfolding fits_beside
fits_beside-fewer [] here there less h = refl
fits_beside-fewer (mask ∷ masks) here there less h =
    fits_below-more 16 mask (fits_beside masks) (fits_beside masks) here there less
    (λ c. fits_beside-fewer masks (c ∷ here) (c ∷ there) (AreTaken-cons c here there less)) h

-- with fewer others, without the first, and the first alone
pub fits_beside-others : (mask : ℕ) (masks others taken : List ℕ) → ((more : List ℕ) → fits_beside masks more ≡ true → fits_beside others more ≡ true)
    → fits_beside (mask ∷ masks) taken ≡ true → fits_beside (mask ∷ others) taken ≡ true
unfolding fits_beside
fits_beside-others mask masks others taken f h = fits_below-more 16 mask (fits_beside masks) (fits_beside others) taken taken (λ c k. k) (λ c. f (c ∷ taken)) h

pub fits_beside-rest : (mask : ℕ) (masks taken : List ℕ) → fits_beside (mask ∷ masks) taken ≡ true → fits_beside masks taken ≡ true
unfolding fits_beside
fits_beside-rest mask masks taken h =
    fits_below-any (fits_beside masks taken ≡ true) 16 mask (fits_beside masks) taken (λ c. fits_beside-fewer masks taken (c ∷ taken) (AreTaken-push c taken)) h

pub fits_beside-none : (taken : List ℕ) → fits_beside [] taken ≡ true
unfolding fits_beside
fits_beside-none taken = refl

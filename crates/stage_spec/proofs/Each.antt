-- What holds of each instance of a stage, through the changes of lists.
use Rattle.std.specs.Prelude.{◌≡◌, ℕ, Bool, true, false, List, [], ◌∷◌, ◌++◌, map, filter, flat_map, replicate, zero, suc, slice_index_or, slice_set, cond}
use Rattle.std.proofs.Common.{refl}
use Rattle.stage_spec.specs.{declared.instance.Instance.{Instance}, Stage.{Stage, Group, members_of, Lists, no_groups}}

unfoldable pub Each : {X : Type 0} → (X → Type 0) → List X → Type 0
Each P [] = Unit {0}
Each P (x ∷ xs) = P x × Each P xs

pub none-Each : {X : Type 0} (P : X → Type 0) → Each P []
unfolding Each
none-Each P = tt

pub cons-Each : {X : Type 0} (P : X → Type 0) (x : X) (xs : List X) → P x → Each P xs → Each P (x ∷ xs)
unfolding Each
cons-Each P x xs h g = (h, g)

pub head-Each : {X : Type 0} (P : X → Type 0) (x : X) (xs : List X) → Each P (x ∷ xs) → P x
unfolding Each
head-Each P x xs h = h.0

pub tail-Each : {X : Type 0} (P : X → Type 0) (x : X) (xs : List X) → Each P (x ∷ xs) → Each P xs
unfolding Each
tail-Each P x xs h = h.1

pub append-Each : {X : Type 0} (P : X → Type 0) (xs ys : List X) → Each P xs → Each P ys → Each P (xs ++ ys)
unfolding Each
append-Each P [] ys h g = g
append-Each P (x ∷ xs) ys h g = (h.0, append-Each P xs ys h.1 g)

pub map-Each : {X Y : Type 0} (P : X → Type 0) (Q : Y → Type 0) (f : X → Y) → ((x : X) → P x → Q (f x)) → (xs : List X) → Each P xs → Each Q (map f xs)
unfolding Each
map-Each P Q f k [] h = tt
map-Each P Q f k (x ∷ xs) h = (k x h.0, map-Each P Q f k xs h.1)

pub weaker-Each : {X : Type 0} (P Q : X → Type 0) → ((x : X) → P x → Q x) → (xs : List X) → Each P xs → Each Q xs
unfolding Each
weaker-Each P Q k [] h = tt
weaker-Each P Q k (x ∷ xs) h = (k x h.0, weaker-Each P Q k xs h.1)

cond-Each : {X : Type 0} (P : X → Type 0) (b : Bool) (x : X) (xs : List X) → P x → Each P xs → Each P (cond b (x ∷ xs) xs)
unfolding Each
cond-Each P true x xs h g = (h, g)
cond-Each P false x xs h g = g

pub filter-Each : {X : Type 0} (P : X → Type 0) (p : X → Bool) (xs : List X) → Each P xs → Each P (filter p xs)
unfolding Each
filter-Each P p [] h = tt
filter-Each P p (x ∷ xs) h = cond-Each P (p x) x (filter p xs) h.0 (filter-Each P p xs h.1)

pub flat_map-Each : {X Y : Type 0} (P : X → Type 0) (Q : Y → Type 0) (f : X → List Y) → ((x : X) → P x → Each Q (f x)) → (xs : List X) → Each P xs → Each Q (flat_map f xs)
unfolding Each
flat_map-Each P Q f k [] h = tt
flat_map-Each P Q f k (x ∷ xs) h = append-Each Q (f x) (flat_map f xs) (k x h.0) (flat_map-Each P Q f k xs h.1)

-- functions that give the same of each element
pub flat_map-same : {X Y : Type 0} (f g : X → List Y) (xs : List X) → Each (λ x. f x ≡ g x) xs → flat_map f xs ≡ flat_map g xs
unfolding Each
flat_map-same f g [] h = refl
flat_map-same f g (x ∷ xs) h = rw (h.0, flat_map-same f g xs h.1) refl

pub replicate-Each : {X : Type 0} (P : X → Type 0) (n : ℕ) (x : X) → P x → Each P (replicate n x)
unfolding Each
replicate-Each P zero x h = tt
replicate-Each P (suc n) x h = (h, replicate-Each P n x h)

pub get_or-Each : {X : Type 0} (P : X → Type 0) (xs : List X) (i : ℕ) (d : X) → Each P xs → P d → P (slice_index_or xs i d)
unfolding Each
get_or-Each P [] i d h g = g
get_or-Each P (x ∷ xs) zero d h g = h.0
get_or-Each P (x ∷ xs) (suc i) d h g = get_or-Each P xs i d h.1 g

pub set-Each : {X : Type 0} (P : X → Type 0) (xs : List X) (i : ℕ) (y : X) → Each P xs → P y → Each P (slice_set xs i y)
unfolding Each
set-Each P [] i y h g = tt
set-Each P (x ∷ xs) zero y h g = (g, h.1)
set-Each P (x ∷ xs) (suc i) y h g = (h.0, set-Each P xs i y h.1 g)

-- of each instance of a group, of groups, of a context, of a stage
abbrev pub InGroup : (Instance → Type 0) → Group → Type 0
InGroup P g = Each P (members_of g)

abbrev pub InGroups : (Instance → Type 0) → List Group → Type 0
InGroups P groups = Each (InGroup P) groups

pub record InLists (P : Instance → Type 0) (l : Lists) : Type 0 where
  pub in_pinned : InGroups P l.pinned
  pub in_flexible : InGroups P l.flexible

abbrev pub InStage : (Instance → Type 0) → Stage → Type 0
InStage P s = Each (InLists P) s.contexts

pub no_groups-In : (P : Instance → Type 0) → InLists P no_groups
no_groups-In P = record { in_pinned = none-Each (InGroup P); in_flexible = none-Each (InGroup P) }

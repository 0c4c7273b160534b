-- What holds of each element, of each element of a part, and of two lists place by place.
use Rattle.std.specs.{Prelude.{◌≡◌, suc, Bool, false, All, List, [], ◌∷◌, ◌++◌, length, map, filter, flat_map}, List.{AllZip, list_any}}
use Rattle.std.proofs.{Common.{refl, ap}, lemmas.{Bool.{or_parts}, List.Elements.{All-nil, All-cons, All-head, All-tail}}}
use Rattle.stage_spec.proofs.Each.{Each, filter-Each}

pub All-from_Each : {X : Type 0} (P : X → Type 0) (xs : List X) → Each P xs → All P xs
unfolding Each
All-from_Each P [] h = All-nil P
All-from_Each P (x ∷ xs) h = All-cons P x xs h.0 (All-from_Each P xs h.1)

pub Each-from_All : {X : Type 0} (P : X → Type 0) (xs : List X) → All P xs → Each P xs
unfolding Each
Each-from_All P [] h = tt
Each-from_All P (x ∷ xs) h = (All-head P x xs h, Each-from_All P xs (All-tail P x xs h))

pub both-Each : {X : Type 0} (P Q R : X → Type 0) → ((x : X) → P x → Q x → R x) → (xs : List X) → Each P xs → Each Q xs → Each R xs
unfolding Each
both-Each P Q R f [] h k = tt
both-Each P Q R f (x ∷ xs) h k = (f x h.0 k.0, both-Each P Q R f xs h.1 k.1)

pub all-Each : {X : Type 0} (P : X → Type 0) → ((x : X) → P x) → (xs : List X) → Each P xs
unfolding Each
all-Each P f [] = tt
all-Each P f (x ∷ xs) = (f x, all-Each P f xs)

-- the two parts of a list, and the lists that are joined end to end
pub front-Each : {X : Type 0} (P : X → Type 0) (xs ys : List X) → Each P (xs ++ ys) → Each P xs
unfolding Each
front-Each P [] ys h = tt
front-Each P (x ∷ xs) ys h = (h.0, front-Each P xs ys h.1)

pub back-Each : {X : Type 0} (P : X → Type 0) (xs ys : List X) → Each P (xs ++ ys) → Each P ys
unfolding Each
back-Each P [] ys h = h
back-Each P (x ∷ xs) ys h = back-Each P xs ys h.1

pub joined-Each : {X Y : Type 0} (Q : Y → Type 0) (f : X → List Y) (xs : List X) → Each Q (flat_map f xs) → Each (λ x. Each Q (f x)) xs
unfolding Each
joined-Each Q f [] h = tt
joined-Each Q f (x ∷ xs) h = (front-Each Q (f x) (flat_map f xs) h, joined-Each Q f xs (back-Each Q (f x) (flat_map f xs) h))

-- no element passes
pub none_passes-Each : {X : Type 0} (p : X → Bool) (xs : List X) → list_any p xs ≡ false → Each (λ x. p x ≡ false) xs
unfolding Each
none_passes-Each p [] h = tt
none_passes-Each p (x ∷ xs) h = ((or_parts (p x) (list_any p xs) h).0, none_passes-Each p xs (or_parts (p x) (list_any p xs) h).1)

-- place by place
pub zip-Each : {X Y : Type 0} (R : X → Y → Type 0) (P : X → Type 0) (Q : Y → Type 0) → ((x : X) (y : Y) → R x y → P x → Q y) → (xs : List X) (ys : List Y)
    → AllZip R xs ys → Each P xs → Each Q ys
unfolding Each
zip-Each R P Q f [] [] r h = tt
zip-Each R P Q f [] (y ∷ ys) r h = absurd r
zip-Each R P Q f (x ∷ xs) [] r h = absurd r
zip-Each R P Q f (x ∷ xs) (y ∷ ys) r h = (f x y r.0 h.0, zip-Each R P Q f xs ys r.1 h.1)

pub length-AllZip : {X Y : Type 0} (R : X → Y → Type 0) (xs : List X) (ys : List Y) → AllZip R xs ys → length ys ≡ length xs
length-AllZip R [] [] r = refl
length-AllZip R [] (y ∷ ys) r = absurd r
length-AllZip R (x ∷ xs) [] r = absurd r
length-AllZip R (x ∷ xs) (y ∷ ys) r = ap suc (length-AllZip R xs ys r.1)

pub weaker-AllZip : {X Y : Type 0} (R S : X → Y → Type 0) → ((x : X) (y : Y) → R x y → S x y) → (xs : List X) (ys : List Y) → AllZip R xs ys → AllZip S xs ys
weaker-AllZip R S f [] [] r = tt
weaker-AllZip R S f [] (y ∷ ys) r = absurd r
weaker-AllZip R S f (x ∷ xs) [] r = absurd r
weaker-AllZip R S f (x ∷ xs) (y ∷ ys) r = (f x y r.0, weaker-AllZip R S f xs ys r.1)

pub map-AllZip : {X Y : Type 0} (R : X → Y → Type 0) (f : X → Y) → ((x : X) → R x (f x)) → (xs : List X) → AllZip R xs (map f xs)
map-AllZip R f k [] = tt
map-AllZip R f k (x ∷ xs) = (k x, map-AllZip R f k xs)

pub same-AllZip : {X : Type 0} (R : X → X → Type 0) → ((x : X) → R x x) → (xs : List X) → AllZip R xs xs
same-AllZip R k [] = tt
same-AllZip R k (x ∷ xs) = (k x, same-AllZip R k xs)

-- the first, and some of the others
pub some-Each : {X : Type 0} (P : X → Type 0) (p : X → Bool) (x : X) (xs : List X) → Each P (x ∷ xs) → Each P (x ∷ filter p xs)
unfolding Each
some-Each P p x xs h = (h.0, filter-Each P p xs h.1)

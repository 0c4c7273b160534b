-- Lists through the images of their elements: those that pass a test, the first that does, how many do, and what holds
-- of each.
use Rattle.std.specs.Prelude.{◌≡◌, Bool, All, List, [], ◌∷◌, map, filter, length, find, count_by, Option, Some, None, option_map, slice_index_or}
use Rattle.std.proofs.{Common.{arith, refl, sym, ap, ◌∙◌}, lemmas.{Option.{none-some}, List.{length-map}}}
use Rattle.std.proofs.Math.ListN.{get_or-map}
use Rattle.stage_laws.proofs.{Counts.{count-cons}, Tasks.{some-same}}

pub map-same : {X Y : Type 0} (f g : X → Y) → ((x : X) → f x ≡ g x) → (xs : List X) → map f xs ≡ map g xs
map-same f g same [] = refl
map-same f g same (x ∷ xs) = rw (same x, map-same f g same xs) refl

pub filter-map : {X Y : Type 0} (p : Y → Bool) (q : X → Bool) (f : X → Y) → ((x : X) → p (f x) ≡ q x) → (xs : List X) → filter p (map f xs) ≡ map f (filter q xs)
filter-map p q f same [] = refl
filter-map p q f same (x ∷ xs) = grind (arith, filter-map p q f same xs)

find-map : {X Y : Type 0} (p : Y → Bool) (q : X → Bool) (f : X → Y) → ((x : X) → p (f x) ≡ q x) → (xs : List X) → find p (map f xs) ≡ option_map f (find q xs)
find-map p q f same [] = refl
find-map p q f same (x ∷ xs) = grind (arith, find-map p q f same xs)

image-image : {X Y Z : Type 0} (g : Y → Z) (f : X → Y) (o : Option X) → option_map g (option_map f o) ≡ option_map (λ x. g (f x)) o
image-image g f None = refl
image-image g f (Some x) = refl

pub find-image : {X Y Z : Type 0} (p : Y → Bool) (q : X → Bool) (f : X → Y) (g : Y → Z) → ((x : X) → p (f x) ≡ q x) → (xs : List X)
    → option_map g (find p (map f xs)) ≡ option_map (λ x. g (f x)) (find q xs)
find-image p q f g same xs = ap (option_map g) (find-map p q f same xs) ∙ image-image g f (find q xs)

-- two lists with equal images
pub all-by : {X Y : Type 0} (f : X → Y) (P Q : X → Type 0) → ((x y : X) → f y ≡ f x → P x → Q y) → (xs ys : List X) → map f ys ≡ map f xs → All P xs → All Q ys
all-by f P Q step xs ys same h k d low =
    let lengths : length ys ≡ length xs = sym (length-map ys f) ∙ (ap length same ∙ length-map xs f) in
    let image : f (slice_index_or ys k d) ≡ f (slice_index_or xs k d) = sym (get_or-map f ys k d) ∙ (ap (λ zs. slice_index_or zs k (f d)) same ∙ get_or-map f xs k d) in
    step (slice_index_or xs k d) (slice_index_or ys k d) image (h k d (omega (arith, low, lengths)))

count-map : {X : Type 0} (f : X → X) (p : X → Bool) → ((x : X) → p (f x) ≡ p x) → (xs : List X) → count_by p (map f xs) ≡ count_by p xs
count-map f p same [] = refl
count-map f p same (x ∷ xs) = count-cons p (f x) (map f xs) ∙ (rw (same x, count-map f p same xs) (sym (count-cons p x xs)))

pub count-by : {X : Type 0} (f : X → X) (p : X → Bool) → ((x : X) → p (f x) ≡ p x) → (xs ys : List X) → map f ys ≡ map f xs → count_by p ys ≡ count_by p xs
count-by f p same xs ys h = sym (count-map f p same ys) ∙ (ap (count_by p) h ∙ count-map f p same xs)

image-some : {X Y : Type 0} (f : X → Y) (o : Option X) (z : Y) → option_map f o ≡ Some z → (x : X) × (o ≡ Some x) × (f x ≡ z)
image-some f None z h = absurd (none-some z h)
image-some f (Some x) z h = (x, refl, some-same (f x) z h)

pub find-by : {X : Type 0} (f : X → X) (p : X → Bool) → ((x : X) → p (f x) ≡ p x) → (xs ys : List X) → map f ys ≡ map f xs → (x : X) → find p xs ≡ Some x
    → (y : X) × (find p ys ≡ Some y) × (f y ≡ f x)
find-by f p same xs ys h x found =
    image-some f (find p ys) (f x) (sym (find-map p p f same ys) ∙ (ap (find p) h ∙ (find-map p p f same xs ∙ ap (option_map f) found)))

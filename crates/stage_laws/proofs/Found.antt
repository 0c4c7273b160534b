-- The first element that passes a test: it is there, and passes.
use Rattle.std.specs.Prelude.{◌≡◌, ℕ, ◌+◌, ◌≤◌, All, Bool, true, false, ◌||◌, cond, List, [], ◌∷◌, find, is_some, Option, Some, None}
use Rattle.std.{specs.List.{list_any}, proofs.{Common.{arith, refl, ap, subst}, lemmas.List.Elements.{All-head, All-tail}}}
use Rattle.stage_laws.proofs.Totals.{total}

-- a number of what is found, and none of nothing
weight_of : {X : Type 0} → (X → ℕ) → Option X → ℕ
weight_of f None = 0
weight_of f (Some x) = f x

found-one : {X : Type 0} (f : X → ℕ) (b : Bool) (x : X) (o : Option X) (n : ℕ) → weight_of f o ≤ n → weight_of f (cond b (Some x) o) ≤ f x + n
unfolding weight_of
found-one f true x o n h = omega arith
found-one f false x o n h = omega (arith, h)

found-le : {X : Type 0} (f : X → ℕ) (test : X → Bool) (xs : List X) → weight_of f (find test xs) ≤ total f xs
unfolding weight_of total
found-le f test [] = omega arith
found-le f test (x ∷ xs) = found-one f (test x) x (find test xs) (total f xs) (found-le f test xs)

pub found_weighs : {X : Type 0} (f : X → ℕ) (test : X → Bool) (xs : List X) (x : X) → find test xs ≡ Some x → f x ≤ total f xs
unfolding weight_of
found_weighs f test xs x h = omega (arith, ap (weight_of f) h, found-le f test xs)

-- what all have, what is found has
abbrev Holds : {X : Type 0} → (X → Type 0) → Option X → Type 0
Holds P None = Unit {0}
Holds P (Some x) = P x

found-holds : {X : Type 0} (P : X → Type 0) (b : Bool) (x : X) (o : Option X) → P x → Holds P o → Holds P (cond b (Some x) o)
found-holds P true x o h k = h
found-holds P false x o h k = k

found-all : {X : Type 0} (P : X → Type 0) (test : X → Bool) (xs : List X) → All P xs → Holds P (find test xs)
found-all P test [] h = tt
found-all P test (x ∷ xs) h = found-holds P (test x) x (find test xs) (All-head P x xs h) (found-all P test xs (All-tail P x xs h))

pub found_has : {X : Type 0} (P : X → Type 0) (test : X → Bool) (xs : List X) (x : X) → All P xs → find test xs ≡ Some x → P x
found_has P test xs x h e = subst (Holds P) e (found-all P test xs h)

passes-one : {X : Type 0} (test : X → Bool) (b : Bool) (x : X) (o : Option X) → test x ≡ b → Holds (λ y. test y ≡ true) o → Holds (λ y. test y ≡ true) (cond b (Some x) o)
passes-one test true x o e h = e
passes-one test false x o e h = h

passes : {X : Type 0} (test : X → Bool) (xs : List X) → Holds (λ y. test y ≡ true) (find test xs)
passes test [] = tt
passes test (x ∷ xs) = passes-one test (test x) x (find test xs) refl (passes test xs)

-- where some element passes, one is found
there-one : {X : Type 0} (b rest : Bool) (x : X) (o : Option X) → (rest ≡ true → is_some o ≡ true) → (b || rest) ≡ true → is_some (cond b (Some x) o) ≡ true
there-one true rest x o h k = refl
there-one false rest x o h k = h k

pub found_there : {X : Type 0} (test : X → Bool) (xs : List X) → list_any test xs ≡ true → is_some (find test xs) ≡ true
found_there test [] h = h
found_there test (x ∷ xs) h = there-one (test x) (list_any test xs) x (find test xs) (found_there test xs) h

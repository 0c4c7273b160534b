-- The members of a tight set are told one by one.
use Rattle.std.specs.Prelude.{if◌then◌else◌}
use Rattle.std.proofs.Common.{◌≡◌, ℕ, ◌+◌, ◌<◌, Bool, true, false, List, [], ◌∷◌, ◌++◌, length, get_or, map, drop, sym, ap, ◌∙◌, append_assoc, add-one}
use Rattle.std.proofs.lemmas.List.{drop_more}
use Rattle.counter_match.specs.Search.{picked}

-- what stands at the next place, and the rest
picked-drop : {X : Type 0} (p : ℕ → Bool) (i : ℕ) (xs : List X) (d : X) → i < length xs
    → picked p i (drop i xs) ≡ (if p i then get_or xs i d ∷ [] else []) ++ picked p (i + 1) (drop (i + 1) xs)
picked-drop p i xs d l = ap (picked p i) (drop_more xs i d l) ∙ ap (λ k. (if p i then get_or xs i d ∷ [] else []) ++ picked p k (drop (i + 1) xs)) (sym (add-one i))

pub picked_yes : {X Y : Type 0} (f : X → Y) (p : ℕ → Bool) (i : ℕ) (xs : List X) (d : X) (told more all : List Y) → i < length xs → p i ≡ true
    → more ≡ told ++ f (get_or xs i d) ∷ [] → told ++ map f (picked p i (drop i xs)) ≡ all → more ++ map f (picked p (i + 1) (drop (i + 1) xs)) ≡ all
picked_yes f p i xs d told more all l t m h =
    let e : picked p i (drop i xs) ≡ get_or xs i d ∷ picked p (i + 1) (drop (i + 1) xs) =
    picked-drop p i xs d l ∙ ap (λ b. (if b then get_or xs i d ∷ [] else []) ++ picked p (i + 1) (drop (i + 1) xs)) t in
    ap (λ ys. ys ++ map f (picked p (i + 1) (drop (i + 1) xs))) m
    ∙ (append_assoc told (f (get_or xs i d) ∷ []) _ ∙ (ap (λ ys. told ++ map f ys) (sym e) ∙ h))

pub picked_no : {X Y : Type 0} (f : X → Y) (p : ℕ → Bool) (i : ℕ) (xs : List X) (d : X) (told more all : List Y) → i < length xs → p i ≡ false
    → more ≡ told → told ++ map f (picked p i (drop i xs)) ≡ all → more ++ map f (picked p (i + 1) (drop (i + 1) xs)) ≡ all
picked_no f p i xs d told more all l t m h =
    let e : picked p i (drop i xs) ≡ picked p (i + 1) (drop (i + 1) xs) =
    picked-drop p i xs d l ∙ ap (λ b. (if b then get_or xs i d ∷ [] else []) ++ picked p (i + 1) (drop (i + 1) xs)) t in
    ap (λ ys. ys ++ map f (picked p (i + 1) (drop (i + 1) xs))) m ∙ (ap (λ ys. told ++ map f ys) (sym e) ∙ h)

-- A list of lists, kept as a list of values that each have one.
use Rattle.std.proofs.{Common.{◌≡◌, ℕ, ◌<◌, List, [], ◌∷◌, ◌++◌, length, map, get_or, set, sym, ap, ◌∙◌}, lemmas.List.{map-set, get_or-map}}
use Rattle.std.proofs.Math.Seq.{map-set_same}

-- one of the lists gets an entry more
pub lists_push : {V X : Type 0} (items : V → List X) (values : List V) (i : ℕ) (d w : V) (x : X)
    → i < length values → items w ≡ items (get_or values i d) ++ x ∷ []
    → map items (set values i w) ≡ set (map items values) i (get_or (map items values) i [] ++ x ∷ [])
lists_push items values i d w x l e =
    let at_i : get_or (map items values) i [] ≡ items (get_or values i d) = get_or-map items values i d [] l in
    map-set items values i w ∙ ap (set (map items values) i) (e ∙ ap (λ ys. ys ++ x ∷ []) (sym at_i))

-- one of the values changes, and its list stays
pub lists_same : {V X : Type 0} (items : V → List X) (values : List V) (i : ℕ) (d w : V)
    → items w ≡ items (get_or values i d) → map items (set values i w) ≡ map items values
lists_same items values i d w e = map-set_same items values i w d e

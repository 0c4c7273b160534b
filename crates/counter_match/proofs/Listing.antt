-- Events beside their counters, one by one.
use Rattle.std.proofs.Common.{◌≡◌, ℕ, ◌+◌, ◌<◌, ◌≤◌, List, [], ◌∷◌, ◌++◌, length, get_or, take, refl, ap, ◌∙◌, arith, length-take}
use Rattle.std.{proofs.lemmas.{List.{take_more, map-append, length-map}, Slice.Zip.{length-zip}}, specs.List.{zip}}
use Rattle.perf_base.specs.declared.numbers.EventNo.{EventNo}
use Rattle.counter_match.specs.Seating.{slots_of}

zip-push : {A B : Type 0} (xs : List A) (ys : List B) (x : A) (y : B) → length xs ≡ length ys → zip (xs ++ x ∷ []) (ys ++ y ∷ []) ≡ zip xs ys ++ (x, y) ∷ []
zip-push [] [] x y e = refl
zip-push [] (b ∷ ys) x y e = absurd (omega arith)
zip-push (a ∷ xs) [] x y e = absurd (omega arith)
zip-push (a ∷ xs) (b ∷ ys) x y e = ap (λ zs. (a, b) ∷ zs) (zip-push xs ys x y (omega arith))

pub zip-more : (events : List (EventNo × ℕ)) (seats : List ℕ) (i : ℕ) (d : EventNo × ℕ) → i < length events → i < length seats
    → zip (slots_of (take (i + 1) events)) (take (i + 1) seats) ≡ zip (slots_of (take i events)) (take i seats) ++ ((get_or events i d).0, get_or seats i 0) ∷ []
zip-more events seats i d l m =
    let a : slots_of (take (i + 1) events) ≡ slots_of (take i events) ++ (get_or events i d).0 ∷ [] = ap slots_of (take_more events i d l) ∙ map-append (λ (e : EventNo × ℕ). e.0) (take i events) (get_or events i d ∷ []) in
    let n : length (slots_of (take i events)) ≡ length (take i seats) = omega (arith, length-map (take i events) (λ (e : EventNo × ℕ). e.0), length-take i events, length-take i seats) in
    ap (λ xs. zip xs (take (i + 1) seats)) a ∙ (ap (zip (slots_of (take i events) ++ (get_or events i d).0 ∷ [])) (take_more seats i 0 m) ∙ zip-push _ _ _ _ n)

pub length-zip_slots : (events : List (EventNo × ℕ)) (seats : List ℕ) (i : ℕ) → length (zip (slots_of (take i events)) (take i seats)) ≤ i
length-zip_slots events seats i = omega (arith, length-zip (slots_of (take i events)) (take i seats), length-take i seats)

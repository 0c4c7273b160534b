-- Reading one word after the other, as a loop does.
use Rattle.std.proofs.Common.{◌≡◌, ℕ, ◌+◌, ◌*◌, ◌-◌, ◌<◌, ◌≤◌, ◌↔◌, Bool, IsTrue, All, true, false, Bor, List, [], ◌∷◌, ◌++◌, map, length, get_or, take, drop, Option, Some, None, refl, sym, ap, ◌∙◌, append_assoc, arith, length-take, length-drop}
use Rattle.std.{proofs.{Math.{Seq.{take-length}}, lemmas.{List.{append-nil, drop_more, Elements.{All-push, All-pop}}, Option.{same_Some}}}, specs.{Prelude.{unwrap_or}, Str.{bytes_eq}}}
use Rattle.line_forms.specs.{declared.keyword.Keyword.{Keyword}, Keyword.{looked_up}, Words.{◌>>=◌, next_of}, Lists.{each_word, all_in, pair_of, pairs_in}}
use Rattle.line_forms.proofs.Singles.{bind_some}

-- what was read before, and what is still read
abbrev pub with_front : {A : Type 0} → List A → Option (List A) → Option (List A)
with_front front read = read >>= λ xs. Some (front ++ xs)

pub next_cons : (w : List ℕ) (ws xs : List (List ℕ)) → Some (w, ws) ≡ next_of xs → xs ≡ w ∷ ws
next_cons w ws [] e = absurd cc
next_cons w ws (x ∷ xs) e = sym (ap (λ (o : Option (List ℕ × List (List ℕ))). elim o [ Some y ↦ y.0 ∷ y.1 | None ↦ [] ]) e)

pub next_nil : (xs : List (List ℕ)) → None ≡ next_of xs → xs ≡ []
next_nil [] e = refl
next_nil (x ∷ xs) e = absurd cc

regroup : {A : Type 0} (front : List A) (x : A) (read : Option (List A)) → with_front front (read >>= λ xs. Some (x ∷ xs)) ≡ with_front (front ++ x ∷ []) read
regroup front x (Some xs) = ap Some (sym (append_assoc front (x ∷ []) xs))
regroup front x None = refl

pub each_step : {A : Type 0} (f : List ℕ → Option A) (front : List A) (w : List ℕ) (ws xs : List (List ℕ)) (x : A) (whole : Option (List A))
    → Some (w, ws) ≡ next_of xs → f w ≡ Some x → with_front front (each_word f xs) ≡ whole → with_front (front ++ x ∷ []) (each_word f ws) ≡ whole
unfolding each_word
each_step f front w ws xs x whole n h so_far =
    let one : with_front front (each_word f (w ∷ ws)) ≡ with_front (front ++ x ∷ []) (each_word f ws) = rw h (regroup front x (each_word f ws)) in
    sym one ∙ (ap (λ (ys : List (List ℕ)). with_front front (each_word f ys)) (sym (next_cons w ws xs n)) ∙ so_far)

pub each_fail : {A : Type 0} (f : List ℕ → Option A) (front : List A) (w : List ℕ) (ws xs : List (List ℕ)) (whole : Option (List A))
    → Some (w, ws) ≡ next_of xs → f w ≡ None → with_front front (each_word f xs) ≡ whole → None ≡ whole
unfolding each_word
each_fail f front w ws xs whole n h so_far =
    let one : with_front front (each_word f (w ∷ ws)) ≡ None = rw h refl in
    sym one ∙ (ap (λ (ys : List (List ℕ)). with_front front (each_word f ys)) (sym (next_cons w ws xs n)) ∙ so_far)

pub each_end : {A : Type 0} (f : List ℕ → Option A) (front : List A) (xs : List (List ℕ)) (whole : Option (List A))
    → None ≡ next_of xs → with_front front (each_word f xs) ≡ whole → whole ≡ Some front
unfolding each_word
each_end f front xs whole n so_far =
    let one : with_front front (each_word f []) ≡ Some front = ap Some (append-nil front) in
    sym so_far ∙ (ap (λ (ys : List (List ℕ)). with_front front (each_word f ys)) (next_nil xs n) ∙ one)

-- where each word gives something, they give all
pub all_given : {A : Type 0} (f : List ℕ → Option A) (words : List (List ℕ)) (xs : List A) → each_word f words ≡ Some xs → all_in f words ≡ xs
all_given f words xs e = ap (λ o. unwrap_or o []) e

pub whole_given : {A : Type 0} (f : List ℕ → Option A) (words : List (List ℕ)) (xs : List A) → each_word f words ≡ Some xs → each_word f words ≡ Some (all_in f words)
whole_given f words xs e = e ∙ ap Some (sym (all_given f words xs e))

pub none_given : {A : Type 0} (f : List ℕ → Option A) (words : List (List ℕ)) → None ≡ next_of words → all_in f words ≡ []
unfolding each_word
none_given f words n = ap (all_in f) (next_nil words n)

-- then the first word gives the first, and those behind it all others
pub record IsFirst {A : Type 0} (f : List ℕ → Option A) (w : List ℕ) (ws words : List (List ℕ)) : Type 0 where
  pub first : A
  pub gives : f w ≡ Some first
  pub others : each_word f ws ≡ Some (all_in f ws)
  pub all : all_in f words ≡ first ∷ all_in f ws

first_in : {A : Type 0} (f : List ℕ → Option A) (w : List ℕ) (ws : List (List ℕ)) (whole : List A) → each_word f (w ∷ ws) ≡ Some whole
    → (x : A) × (f w ≡ Some x) × (each_word f ws ≡ Some (all_in f ws)) × (whole ≡ x ∷ all_in f ws)
unfolding each_word
first_in f w ws whole e =
    let x = bind_some (f w) (λ x. each_word f ws >>= λ xs. Some (x ∷ xs)) whole e in
    let xs = bind_some (each_word f ws) (λ xs. Some (x.0 ∷ xs)) whole x.2 in
    (x.0, x.1, whole_given f ws xs.0 xs.1, sym (same_Some (x.0 ∷ xs.0) whole xs.2) ∙ ap (λ ys. x.0 ∷ ys) (sym (all_given f ws xs.0 xs.1)))

pub first_given : {A : Type 0} (f : List ℕ → Option A) (w : List ℕ) (ws words : List (List ℕ)) → Some (w, ws) ≡ next_of words → each_word f words ≡ Some (all_in f words) → IsFirst f w ws words
first_given f w ws words n e =
    let g = first_in f w ws (all_in f words) (ap (each_word f) (sym (next_cons w ws words n)) ∙ e) in
    record { first = g.0; gives = g.1; others = g.2; all = g.3 }

-- ---- whether all of a list are so, with one more behind it

pub last_decides : {A : Type 0} (P : A → Type 0) (front : List A) (x : A) (all last : Bool) → IsTrue all → IsTrue all ↔ All P front → IsTrue last ↔ P x → IsTrue last ↔ All P (front ++ x ∷ [])
last_decides P front x all last t h own = (λ l. All-push P front x (h.0 t) (own.0 l), λ each. own.1 (All-pop P (front ++ x ∷ []) front (Some x) refl each).1)

pub not_all : {A : Type 0} (P : A → Type 0) (front : List A) (x : A) (all : Bool) → all ≡ false → IsTrue all ↔ All P front → IsTrue all ↔ All P (front ++ x ∷ [])
not_all P front x true f h = absurd cc
not_all P front x false f h = (λ t. absurd cc, λ each. h.1 (All-pop P (front ++ x ∷ []) front (Some x) refl each).0)

-- pairs of digits
pub pairs_step : (bytes rest whole : List ℕ) → 2 ≤ length rest → bytes ++ pairs_in rest ≡ whole
    → (bytes ++ pair_of (get_or rest 0 0) (get_or rest 1 0) ∷ []) ++ pairs_in (take (length rest - 2) (drop 2 rest)) ≡ whole
unfolding pairs_in
pairs_step bytes [] whole l e = absurd (omega (arith, l))
pairs_step bytes (x ∷ []) whole l e = absurd (omega (arith, l))
pairs_step bytes (x ∷ y ∷ rest) whole l e =
    let n : length (x ∷ y ∷ rest) - 2 ≡ length rest = omega arith in
    let all : take (length (x ∷ y ∷ rest) - 2) rest ≡ rest = rw n (take-length rest) in
    rw all (append_assoc bytes (pair_of x y ∷ []) (pairs_in rest) ∙ e)

pub pairs_count : (rest text : List ℕ) (count : ℕ) → 2 ≤ length rest → length rest + 2 * count ≡ length text → length (take (length rest - 2) (drop 2 rest)) + 2 * (count + 1) ≡ length text
pairs_count rest text count l e = omega (arith, l, e, length-take (length rest - 2) (drop 2 rest), length-drop 2 rest)

pub pairs_end : (bytes rest whole : List ℕ) → length rest < 2 → bytes ++ pairs_in rest ≡ whole → bytes ≡ whole
unfolding pairs_in
pairs_end bytes [] whole l e = sym (append-nil bytes) ∙ e
pairs_end bytes (x ∷ []) whole l e = sym (append-nil bytes) ∙ e
pairs_end bytes (x ∷ y ∷ rest) whole l e = absurd (omega (arith, l))

-- an entry of the table of keywords
abbrev pub entry_of : Bor (List ℕ) × Keyword → List ℕ × Keyword
entry_of e = (e.0.now, e.1)

from_here : (table : List (Bor (List ℕ) × Keyword)) (i : ℕ) (d : Bor (List ℕ) × Keyword) → i < length table
    → map entry_of (drop i table) ≡ entry_of (get_or table i d) ∷ map entry_of (drop (i + 1) table)
from_here table i d l = ap (λ (es : List (Bor (List ℕ) × Keyword)). map entry_of es) (drop_more table i d l)

-- the entry here is the word's
pub looked_here : (table : List (Bor (List ℕ) × Keyword)) (i : ℕ) (d : Bor (List ℕ) × Keyword) (word : List ℕ) (found : Option Keyword)
    → i < length table → bytes_eq word (get_or table i d).0.now ≡ true → looked_up (map entry_of (drop i table)) word ≡ found → Some (get_or table i d).1 ≡ found
looked_here table i d word found l t h =
    let e : looked_up (map entry_of (drop i table)) word ≡ Some (get_or table i d).1 = rw (from_here table i d l, t) refl in
    sym e ∙ h

-- it is not, and the word is looked up behind it
pub looked_behind : (table : List (Bor (List ℕ) × Keyword)) (i : ℕ) (d : Bor (List ℕ) × Keyword) (word : List ℕ) (found : Option Keyword)
    → i < length table → bytes_eq word (get_or table i d).0.now ≡ false → looked_up (map entry_of (drop i table)) word ≡ found → looked_up (map entry_of (drop (i + 1) table)) word ≡ found
looked_behind table i d word found l f h =
    let e : looked_up (map entry_of (drop i table)) word ≡ looked_up (map entry_of (drop (i + 1) table)) word = rw (from_here table i d l, f) refl in
    sym e ∙ h

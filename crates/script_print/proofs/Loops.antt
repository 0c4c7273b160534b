-- Lists that are written entry by entry.
use Rattle.std.proofs.Common.{◌≡◌, ℕ, zero, suc, ◌+◌, ◌<◌, List, [], ◌∷◌, ◌++◌, length, get_or, take, drop, Result, Ok, Err, arith, refl, sym, ap, append_assoc, add-one}
use Rattle.std.{proofs.lemmas.{List.{append-nil}, Grind.{flat_map-append}}, specs.{Result.{IsErr}, Prelude.{IfSome}}}
use Rattle.std.specs.List.{slice_get, join_with_byte}
use Rattle.perf_io.{specs.{Outside.{SinkShows}, Wrote.{Wrote}, declared.outside.Failed.{Failed}}, proofs.Wrote.{wrote_then, wrote_exit, wrote_text}}
use Rattle.script_print.specs.Words.{word_texts, all_word_texts, spaced}

-- a text was written so far, and nothing was flushed
pub record IsWritten {K : Type 0} (shows : SinkShows K) (first now : K) (text : List ℕ) : Type 0 where
  pub wrote : Wrote shows first now (Ok tt) text
  pub flushed : shows.flushed now ≡ shows.flushed first

-- a list is written entry by entry
pub record IsText {X : Type 0} (text : List X → List ℕ) (piece : X → List ℕ) : Type 0 where
  pub nil : text [] ≡ []
  pub cons : (x : X) (xs : List X) → text (x ∷ xs) ≡ piece x ++ text xs

-- and what an entry writes may depend on a state, which each entry changes
pub record IsTextFrom {S X : Type 0} (next : S → X → S) (text : S → List X → List ℕ) (piece : S → X → List ℕ) : Type 0 where
  pub nil : (s : S) → text s [] ≡ []
  pub cons : (s : S) (x : X) (xs : List X) → text s (x ∷ xs) ≡ piece s x ++ text (next s x) xs

-- the state behind entries
abbrev pub behind : {S X : Type 0} → (S → X → S) → S → List X → S
behind next s [] = s
behind next s (x ∷ xs) = behind next (next s x) xs

pub behind_more : {S X : Type 0} (next : S → X → S) (s : S) (xs : List X) (i : ℕ) (d : X) → i < length xs → behind next s (take (suc i) xs) ≡ next (behind next s (take i xs)) (get_or xs i d)
behind_more next s [] i d l = absurd (omega (arith, l))
behind_more next s (x ∷ xs) zero d l = refl
behind_more next s (x ∷ xs) (suc i) d l = behind_more next (next s x) xs i d (omega (arith, l))

module _ {S X : Type 0} {next : S → X → S} {text : S → List X → List ℕ} {piece : S → X → List ℕ} (is : IsTextFrom next text piece) where
  text_more : (s : S) (xs : List X) (i : ℕ) (d : X) → i < length xs → text s (take (suc i) xs) ≡ text s (take i xs) ++ piece (behind next s (take i xs)) (get_or xs i d)
  text_more s [] i d l = absurd (omega (arith, l))
  text_more s (x ∷ xs) zero d l = rw (is.cons s x [], is.nil (next s x), is.nil s) (append-nil (piece s x))
  text_more s (x ∷ xs) (suc i) d l = rw (is.cons s x (take (suc i) xs), is.cons s x (take i xs), text_more (next s x) xs i d (omega (arith, l))) (sym (append_assoc (piece s x) _ _))

  text_split : (s : S) (xs : List X) (i : ℕ) (d : X) → i < length xs
      → text s xs ≡ text s (take i xs) ++ (piece (behind next s (take i xs)) (get_or xs i d) ++ text (next (behind next s (take i xs)) (get_or xs i d)) (drop (suc i) xs))
  text_split s [] i d l = absurd (omega (arith, l))
  text_split s (x ∷ xs) zero d l = rw (is.cons s x xs, is.nil s) refl
  text_split s (x ∷ xs) (suc i) d l = rw (is.cons s x xs, is.cons s x (take i xs), text_split (next s x) xs i d (omega (arith, l))) (sym (append_assoc (piece s x) _ _))

  module _ {K : Type 0} {shows : SinkShows K} where
    -- one entry more was written
    pub state_more : (s : S) (xs : List X) (i : ℕ) (d : X) {a b c : K} → i < length xs → Wrote shows a b (Ok tt) (text s (take i xs))
        → Wrote shows b c (Ok tt) (piece (behind next s (take i xs)) (get_or xs i d)) → Wrote shows a c (Ok tt) (text s (take (i + 1) xs))
    state_more s xs i d l p q = rw add-one (wrote_text (sym (text_more s xs i d l)) (wrote_then p q))

    -- the front of an entry was written
    pub state_exit : (s : S) (xs : List X) (i : ℕ) (d : X) {a b c : K} {e : Failed} {r : Result (Unit {0}) Failed} → i < length xs → Wrote shows a b (Ok tt) (text s (take i xs)) → IsErr r
        → Wrote shows b c (Err e) (piece (behind next s (take i xs)) (get_or xs i d)) → Wrote shows a c r (text s xs)
    state_exit s xs i d l p q w = wrote_text (sym (text_split s xs i d l)) (wrote_then p (wrote_exit _ q w))

-- a list without a state
pub stateless : {X : Type 0} {text : List X → List ℕ} {piece : X → List ℕ} → IsText text piece → IsTextFrom (λ (s : Unit {0}) (x : X). s) (λ s xs. text xs) (λ s x. piece x)
stateless is = record { nil = λ s. is.nil; cons = λ s x xs. is.cons x xs }

module _ {X : Type 0} {text : List X → List ℕ} {piece : X → List ℕ} (is : IsText text piece) {K : Type 0} {shows : SinkShows K} where
  pub loop_exit : (xs : List X) (i : ℕ) (d : X) {a b c : K} {e : Failed} {r : Result (Unit {0}) Failed} → i < length xs
      → Wrote shows a b (Ok tt) (text (take i xs)) → IsErr r → Wrote shows b c (Err e) (piece (get_or xs i d)) → Wrote shows a c r (text xs)
  loop_exit xs i d l p q w = state_exit (stateless is) tt xs i d l p q w

  -- where the entry was read
  pub loop_more_is : (xs : List X) (i : ℕ) (x : X) {a b c : K} → i < length xs → x ≡ get_or xs i x
      → Wrote shows a b (Ok tt) (text (take i xs)) → Wrote shows b c (Ok tt) (piece x) → Wrote shows a c (Ok tt) (text (take (i + 1) xs))
  loop_more_is xs i x l e p q = state_more (stateless is) tt xs i x l p (wrote_text (ap piece e) q)

  pub loop_exit_is : (xs : List X) (i : ℕ) (x : X) {a b c : K} {e : Failed} {r : Result (Unit {0}) Failed} → i < length xs → x ≡ get_or xs i x
      → Wrote shows a b (Ok tt) (text (take i xs)) → IsErr r → Wrote shows b c (Err e) (piece x) → Wrote shows a c r (text xs)
  loop_exit_is xs i x l e p q w = loop_exit xs i x l p q (wrote_text (ap piece e) w)

-- a place of a list that has an entry
pub found : {X : Type 0} (xs : List X) (i : ℕ) (P : X → Type 0) → i < length xs → IfSome (slice_get xs i) P → (x : X) × (x ≡ get_or xs i x) × P x
found [] i P l h = absurd (omega (arith, l))
found (x ∷ xs) zero P l h = (x, refl, h)
found (x ∷ xs) (suc i) P l h = found xs i P (omega (arith, l)) h

-- ---- words

-- a line's words, each but the first with a space before it
pub join_spaced : (w : List ℕ) (ws : List (List ℕ)) → join_with_byte 32 (w ∷ ws) ≡ w ++ spaced ws
join_spaced w [] = sym (append-nil w)
join_spaced w (v ∷ ws) = ap (λ (t : List ℕ). w ++ (32 ∷ t)) (join_spaced v ws)

pub words_text : IsText (λ ws. spaced (all_word_texts ws)) (λ w. spaced (word_texts w))
words_text = record { nil = refl; cons = λ w ws. flat_map-append (λ v. 32 ∷ v) (word_texts w) (all_word_texts ws) }

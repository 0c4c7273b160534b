-- A front of some bytes, and what lies behind it.
use Rattle.std.proofs.{Common.{◌≡◌, ℕ, ◌+◌, ◌≤◌, List, ◌++◌, take, drop, sym, ◌∙◌}, lemmas.List.{take-append-drop, drop-drop, take-take}}

-- the front that was taken and what is left make what there was
pub front_and_rest : (n start : ℕ) (bytes front : List ℕ) → front ≡ take n (drop start bytes) → drop start bytes ≡ front ++ drop (start + n) bytes
front_and_rest n start bytes front e =
    rw (e, ← drop-drop n start bytes) (sym (take-append-drop n (drop start bytes)))

-- a front within a piece is that front of the whole
pub front_within : (n most : ℕ) (bytes front : List ℕ) → n ≤ most → front ≡ take n (take most bytes) → front ≡ take n bytes
front_within n most bytes front h e = e ∙ take-take n most bytes h

-- A text in pieces, one behind another.
use Rattle.std.proofs.{Common.{◌≡◌, ℕ, ◌+◌, ◌-◌, ◌≤◌, List, ◌++◌, take, drop, arith, sym, ap, ◌∙◌}, Math.Seq.{take-add}}
use Rattle.std.proofs.lemmas.List.{take-append-drop}

-- the front up to i and the piece from there to j are the front up to j
pub front_and_piece : (i j : ℕ) (bytes : List ℕ) → i ≤ j → take i bytes ++ take (j - i) (drop i bytes) ≡ take j bytes
front_and_piece i j bytes l = let e : i + (j - i) ≡ j = omega arith in sym (take-add i (j - i) bytes) ∙ ap (λ n. take n bytes) e

-- and with the rest the whole
pub front_piece_rest : (i j : ℕ) (bytes : List ℕ) → i ≤ j → (take i bytes ++ take (j - i) (drop i bytes)) ++ drop j bytes ≡ bytes
front_piece_rest i j bytes l = ap (λ t. t ++ drop j bytes) (front_and_piece i j bytes l) ∙ take-append-drop j bytes

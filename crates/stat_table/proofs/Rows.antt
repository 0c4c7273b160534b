-- Rows, and the pieces in which a row is written.
use Rattle.std.proofs.Common.{◌≡◌, ℕ, ◌+◌, ◌-◌, ◌<◌, List, [], ◌∷◌, ◌++◌, length, get_or, take, drop, Result, Ok, Err}
use Rattle.std.proofs.{Common.{sym, ap, ◌∙◌, append_assoc, add-one}, Math.Seq.{drop-cons}, lemmas.List.{append-nil, take_more, take-append-drop}}
use Rattle.std.{proofs.lemmas.List.Concat.{flat_map-append, flat_map-cons}, specs.{Prelude.{replicate, flat_map, codes, decimal}, Result.{IsErr}}}
use Rattle.perf_io.{specs.{Outside.{SinkShows}, Wrote.{Wrote}, declared.outside.Failed.{Failed}}, proofs.Wrote.{wrote_then, wrote_exit, wrote_text}}
use Rattle.stat_table.specs.{declared.row.StatRow.{StatRow}, Table.{right, numbers_text, row_text}}

regrouped : (slot space name spaces numbers end : List ℕ)
    → slot ++ space ++ name ++ (spaces ++ numbers ++ end) ≡ slot ++ space ++ (name ++ spaces) ++ numbers ++ end
regrouped slot space name spaces numbers end = simp append_assoc

-- the three pieces are the row
pub row_of : (row : StatRow) (head name tail : List ℕ) → head ≡ right 3 (decimal row.event.0) ++ codes " " → name ≡ row.name
    → tail ≡ replicate (31 - length row.name) 32 ++ numbers_text row ++ codes "\n" → head ++ name ++ tail ≡ row_text row
row_of row head name tail h n t =
    rw (h, n, t)
    (regrouped (right 3 (decimal row.event.0)) (codes " ") row.name (replicate (31 - length row.name) 32) (numbers_text row) (codes "\n"))

-- five columns, one behind the other
pub columns : (space text a b c d e : List ℕ) (with_a with_b with_c with_d with_e : List ℕ)
    → with_a ≡ text ++ space ++ a → with_b ≡ with_a ++ space ++ b → with_c ≡ with_b ++ space ++ c → with_d ≡ with_c ++ space ++ d
    → with_e ≡ with_d ++ space ++ e → with_e ≡ text ++ (space ++ a ++ space ++ b ++ space ++ c ++ space ++ d ++ space ++ e)
columns space text a b c d e with_a with_b with_c with_d with_e pa pb pc pd pe = rw (pe, pd, pc, pb, pa) (simp append_assoc)

module _ {X : Type 0} (piece : X → List ℕ) where
  one_more : (xs : List X) (i : ℕ) (d : X) → i < length xs
      → flat_map piece (take (i + 1) xs) ≡ flat_map piece (take i xs) ++ piece (get_or xs i d)
  one_more xs i d l =
      ap (flat_map piece) (take_more xs i d l)
      ∙ (flat_map-append piece (take i xs) (get_or xs i d ∷ [])
      ∙ ap (λ t. flat_map piece (take i xs) ++ t) (append-nil (piece (get_or xs i d))))

  split_at : (xs : List X) (i : ℕ) (d : X) → i < length xs
      → flat_map piece (take i xs) ++ (piece (get_or xs i d) ++ flat_map piece (drop (i + 1) xs)) ≡ flat_map piece xs
  split_at xs i d l =
      let rest : drop i xs ≡ get_or xs i d ∷ drop (i + 1) xs = rw add-one (drop-cons xs i d l) in
      ap (λ t. flat_map piece (take i xs) ++ t) (sym (ap (flat_map piece) rest ∙ flat_map-cons piece (get_or xs i d) (drop (i + 1) xs)))
      ∙ (sym (flat_map-append piece (take i xs) (drop i xs)) ∙ ap (flat_map piece) (take-append-drop i xs))

  module _ {K : Type 0} {shows : SinkShows K} where
    -- one entry more was written
    pub rows_more : (xs : List X) (i : ℕ) (x : X) {a b c : K} → i < length xs → x ≡ get_or xs i x
        → Wrote shows a b (Ok tt) (flat_map piece (take i xs)) → Wrote shows b c (Ok tt) (piece x)
        → Wrote shows a c (Ok tt) (flat_map piece (take (i + 1) xs))
    rows_more xs i x l e p q = wrote_text (sym (one_more xs i x l)) (wrote_then p (wrote_text (ap piece e) q))

    -- the front of an entry was written
    pub rows_exit : (xs : List X) (i : ℕ) (x : X) {a b c : K} {e : Failed} {r : Result (Unit {0}) Failed}
        → i < length xs → x ≡ get_or xs i x
        → Wrote shows a b (Ok tt) (flat_map piece (take i xs)) → IsErr r
        → Wrote shows b c (Err e) (piece x)
        → Wrote shows a c r (flat_map piece xs)
    rows_exit xs i x l e p q w =
        wrote_text (split_at xs i x l) (wrote_then p (wrote_exit (flat_map piece (drop (i + 1) xs)) q (wrote_text (ap piece e) w)))

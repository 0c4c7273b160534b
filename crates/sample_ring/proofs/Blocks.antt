-- Two beginnings of one list that are cut into blocks: the one of more blocks is the longer one.
use Rattle.std.proofs.Common.{◌≡◌, ℕ, zero, ◌+◌, ◌*◌, ◌<◌, ◌≤◌, List, [], ◌∷◌, ◌++◌, All, length, refl, sym, ap, ◌∙◌, subst, append_assoc, length-append, lt_of_not-le, arith}
use Rattle.std.{proofs.{Math.{Decide.{dec_le}, Logic.{dite}}, lemmas.List.Elements.{All-tail}}, specs.List.{concat}}
use mathlib.Core.List.{IsPrefix}
use Rattle.ring_spec.{specs.Whole.{size_field, IsBlock, IsWhole}, proofs.Cutting.{back}}
use Rattle.ring_words.{specs.Ends.{LeadsTo}, proofs.Cuts.{next_begins}}
use Rattle.sample_ring.specs.InEnds.{AreRecords}

-- no block is without words
blocks_long : (blocks : List (List ℕ)) → All IsBlock blocks → length blocks ≤ length (concat blocks)
blocks_long [] all = omega arith
blocks_long ([] ∷ bs) all = absurd (all zero [] (omega arith))
blocks_long ((f ∷ t) ∷ bs) all = omega (arith, blocks_long bs (All-tail IsBlock (f ∷ t) bs all), length-append (f ∷ t) (concat bs))

-- each block more has a word or more
blocks_more : (cs bs : List (List ℕ)) (us vs : List ℕ) → All IsBlock cs → All IsBlock bs → concat cs ++ us ≡ concat bs ++ vs → length cs ≤ length bs
    → length (concat cs) + length bs ≤ length (concat bs) + length cs
blocks_more [] bs us vs all_c all_b e h = omega (arith, blocks_long bs all_b)
blocks_more (c ∷ cs) [] us vs all_c all_b e h = absurd (omega arith)
blocks_more ([] ∷ cs) (b ∷ bs) us vs all_c all_b e h = absurd (all_c zero [] (omega arith))
blocks_more ((f ∷ t) ∷ cs) ([] ∷ bs) us vs all_c all_b e h = absurd (all_b zero [] (omega arith))
blocks_more ((f ∷ t) ∷ cs) ((g ∷ u) ∷ bs) us vs all_c all_b e h =
    let joined : (f ∷ t) ++ (concat cs ++ us) ≡ (g ∷ u) ++ (concat bs ++ vs) = sym (append_assoc (f ∷ t) (concat cs) us) ∙ (e ∙ append_assoc (g ∷ u) (concat bs) vs) in
    let first : f ≡ g = cc in
    let one : size_field f ≡ 8 * length (f ∷ t) = all_c zero [] (omega arith) in
    let two : size_field g ≡ 8 * length (g ∷ u) = all_b zero [] (omega arith) in
    let long : length (f ∷ t) ≡ length (g ∷ u) = omega (arith, one, two, ap size_field first) in
    let behind : length (concat cs) + length bs ≤ length (concat bs) + length cs = blocks_more cs bs us vs (All-tail IsBlock (f ∷ t) cs all_c) (All-tail IsBlock (g ∷ u) bs all_b) (back (f ∷ t) (g ∷ u) (concat cs ++ us) (concat bs ++ vs) long joined) (omega (arith, h)) in
    omega (arith, behind, long, length-append (f ∷ t) (concat cs), length-append (g ∷ u) (concat bs))

-- of two beginnings, the one of more records is longer, by a word or more for each
pub records_more : (xs ys all : List ℕ) (n m : ℕ) → AreRecords xs n → AreRecords ys m → IsPrefix xs all → IsPrefix ys all → n ≤ m → length xs + m ≤ length ys + n
records_more xs ys all n m r s p q h =
    let same : concat r.0 ++ p.0 ≡ concat s.0 ++ q.0 = ap (λ (l : List ℕ). l ++ p.0) r.2 ∙ (p.1 ∙ (sym q.1 ∙ sym (ap (λ (l : List ℕ). l ++ q.0) s.2))) in
    let more : length (concat r.0) + length s.0 ≤ length (concat s.0) + length r.0 = blocks_more r.0 s.0 p.0 q.0 r.1 s.1 same (omega (arith, r.3, s.3, h)) in
    omega (arith, more, r.3, s.3, ap length r.2, ap length s.2)

-- one record more than a beginning has does not pass a longer whole beginning
pub within_whole : (xs ys zs all : List ℕ) (n : ℕ) → AreRecords xs n → AreRecords ys (n + 1) → IsWhole zs → IsPrefix xs all → IsPrefix ys all → IsPrefix zs all
    → length xs < length zs → length ys ≤ length zs
within_whole xs ys zs all n r s w p q o more =
    let z : AreRecords zs (length w.0) = (w.0, w.1, w.2, refl) in
    dite (dec_le (length w.0) n)
    (λ (few : length w.0 ≤ n). absurd (omega (arith, records_more zs xs all (length w.0) n z r o p few, more, few)))
    (λ h.
    let many : n + 1 ≤ length w.0 = omega (arith, lt_of_not-le h) in
    omega (arith, records_more ys zs all (n + 1) (length w.0) s z q o many, many))

-- a record that begins behind a whole beginning of a whole list is within that list
pub begins_within : (xs all : List ℕ) (first : ℕ) → IsWhole xs → IsWhole all → IsPrefix (xs ++ first ∷ []) all → 8 * length xs + size_field first ≤ 8 * length all
begins_within xs all first w v p =
    let leads : LeadsTo (xs ++ first ∷ []) (8 * length all) = record { others = p.0; whole = subst IsWhole (sym p.1) v; ends = ap (λ (l : List ℕ). 8 * length l) p.1 } in
    (next_begins xs first (8 * length all) leads w).within

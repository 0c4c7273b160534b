-- A list of words can be cut into blocks in one way: behind a whole beginning stands the first word of a block.
use Rattle.std.proofs.Common.{◌≡◌, ℕ, zero, suc, ◌*◌, List, [], ◌∷◌, ◌++◌, length, All, sym, ap, ◌∙◌, subst, append_assoc, length-append, arith}
use Rattle.std.specs.List.{concat}
use Rattle.ring_spec.specs.Whole.{size_field, IsBlock, IsWhole}
use Rattle.ring_words.specs.Ends.{LeadsTo, BeginsBlock}
use Rattle.ring_spec.proofs.Cutting.{back}

first_of : (b : List ℕ) (bs : List (List ℕ)) → All IsBlock (b ∷ bs) → IsBlock b
first_of b bs all = all zero [] (omega arith)

others_of : (b : List ℕ) (bs : List (List ℕ)) → All IsBlock (b ∷ bs) → All IsBlock bs
others_of b bs all = λ k d h. all (suc k) d (omega (arith, h))

-- two equal lists, cut at one length
begins : (w : ℕ) (ys : List ℕ) (cs bs : List (List ℕ)) → All IsBlock cs → All IsBlock bs → concat cs ++ w ∷ ys ≡ concat bs
    → BeginsBlock w (8 * length (concat cs)) (8 * length (concat cs ++ w ∷ ys))
begins w ys [] [] all all' e = absurd (cc)
begins w ys [] ([] ∷ bs) all all' e = absurd (first_of [] bs all')
begins w ys [] ((f ∷ r) ∷ bs) all all' e =
    let is : size_field f ≡ 8 * length (f ∷ r) = first_of (f ∷ r) bs all' in
    let same : w ≡ f = cc in
    let size : size_field w ≡ 8 * length (f ∷ r) = ap size_field same ∙ is in
    grind (arith, length, size, length-append)
begins w ys ([] ∷ cs) bs all all' e = absurd (first_of [] cs all)
begins w ys ((f ∷ r) ∷ cs) [] all all' e = absurd (cc)
begins w ys ((f ∷ r) ∷ cs) ([] ∷ bs) all all' e = absurd (first_of [] bs all')
begins w ys ((f ∷ r) ∷ cs) ((g ∷ t) ∷ bs) all all' e =
    let one : size_field f ≡ 8 * length (f ∷ r) = first_of (f ∷ r) cs all in
    let two : size_field g ≡ 8 * length (g ∷ t) = first_of (g ∷ t) bs all' in
    let joined : f ∷ (r ++ (concat cs ++ w ∷ ys)) ≡ g ∷ (t ++ concat bs) = ap (λ (l : List ℕ). f ∷ l) (sym (append_assoc r (concat cs) (w ∷ ys))) ∙ e in
    let same : f ≡ g = cc in
    let behind : r ++ (concat cs ++ w ∷ ys) ≡ t ++ concat bs = cc in
    let long : length r ≡ length t = omega (arith, one, two, ap size_field same) in
    let rest : BeginsBlock w (8 * length (concat cs)) (8 * length (concat cs ++ w ∷ ys)) = begins w ys cs bs (others_of (f ∷ r) cs all) (others_of (g ∷ t) bs all') (back r t (concat cs ++ w ∷ ys) (concat bs) long behind) in record {
      some = rest.some;
      of_words = rest.of_words;
      within = omega (arith, rest.within, length-append (f ∷ r) (concat cs), length-append ((f ∷ r) ++ concat cs) (w ∷ ys), length-append (concat cs) (w ∷ ys));
    }

-- the first word behind a whole list that leads to a place
pub next_begins : (taken : List ℕ) (word end : ℕ) → LeadsTo (taken ++ word ∷ []) end → IsWhole taken → BeginsBlock word (8 * length taken) end
next_begins taken word end leads whole =
    let joined : (taken ++ word ∷ []) ++ leads.others ≡ taken ++ word ∷ leads.others = append_assoc taken (word ∷ []) leads.others in
    let all : concat whole.0 ++ word ∷ leads.others ≡ concat leads.whole.0 = ap (λ (l : List ℕ). l ++ word ∷ leads.others) whole.2 ∙ sym joined ∙ sym leads.whole.2 in
    let found : BeginsBlock word (8 * length (concat whole.0)) (8 * length (concat whole.0 ++ word ∷ leads.others)) = begins word leads.others whole.0 leads.whole.0 whole.1 leads.whole.1 all in
    let at_end : 8 * length (taken ++ word ∷ leads.others) ≡ end = ap (λ (l : List ℕ). 8 * length l) (sym joined) ∙ leads.ends in
    let P : List ℕ → Type 0 = λ l. BeginsBlock word (8 * length l) (8 * length (l ++ word ∷ leads.others)) in
    subst (BeginsBlock word (8 * length taken)) at_end (subst P whole.2 found)

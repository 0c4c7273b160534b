-- What tells that the last line of a text is `end`.
use Rattle.std.proofs.Common.{◌≡◌, ℕ, ◌-◌, nat_eq, Bool, true, inr, List, [], ◌∷◌, ◌++◌, length, take, codes, refl, sym, ◌∙◌, append_assoc}
use Rattle.std.specs.List.{ends_with}
use Rattle.std.proofs.lemmas.{Bool.Decides.{Decides-eqb}, Slice.Eq.{ends_is}}
use Rattle.line_input.specs.Heads.{HasEndLine}

-- the line, and the LF before it
abbrev behind_lf : List ℕ
behind_lf = 10 ∷ codes "end\n"

-- it stands behind an LF
pub end_line-behind : (text : List ℕ) (r : Bool) → r ≡ ends_with nat_eq text behind_lf → r ≡ true → HasEndLine text
end_line-behind text r is holds =
    let front : List ℕ = take (length text - length behind_lf) text in
    (front ++ 10 ∷ [], inr (front, refl), (ends_is Decides-eqb text behind_lf r is).0 holds ∙ sym (append_assoc front (10 ∷ []) (codes "end\n")))

-- Lists in several parts.
use Rattle.std.proofs.{Common.{◌≡◌, ℕ, List, [], ◌∷◌, ◌++◌, length, refl, ap, ◌∙◌, arith, append_assoc}, lemmas.List.{append-nil}}

-- what stands after the first part has parts of its own
pub next_part : (xs part rest more : List ℕ) → xs ≡ part ++ rest → rest ≡ more → xs ≡ part ++ more
next_part xs part rest more e f = e ∙ ap (λ (x : List ℕ). part ++ x) f

-- nothing stands after the last part
pub last_part : (xs part rest : List ℕ) → xs ≡ part ++ rest → length rest ≡ 0 → xs ≡ part
last_part xs part [] e none = e ∙ append-nil part
last_part xs part (x ∷ rest) e none = absurd (omega (arith, none))

-- six and eight parts, from the first on
pub six_parts : (a b c d e f : List ℕ) → a ++ b ++ c ++ d ++ e ++ f ≡ a ++ (b ++ (c ++ (d ++ (e ++ f))))
six_parts a b c d e f = simp append_assoc refl

pub eight_parts : (a b c d e f g h : List ℕ) → a ++ b ++ c ++ d ++ e ++ f ++ g ++ h ≡ a ++ (b ++ (c ++ (d ++ (e ++ (f ++ (g ++ h))))))
eight_parts a b c d e f g h = simp append_assoc refl

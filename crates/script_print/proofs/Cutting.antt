-- A printed text is cut into its lines, and a printed line into its words.
use Rattle.std.proofs.Common.{◌≡◌, ℕ, Bool, true, false, not, eqb, List, [], ◌∷◌, ◌++◌, refl, ap, ◌∙◌, append_assoc}
use Rattle.std.{proofs.lemmas.Bool.{eq-eqb, and_parts, not-true}, specs.{Prelude.{flat_map}, List.{list_all, join_with_byte}}}
use Rattle.script_spec.specs.Lines.{pieces, all_but_last, last_one, lines_of, rest_of}

-- the byte does not stand in the text
abbrev pub lacks : ℕ → List ℕ → Bool
lacks c text = list_all (λ b. not (eqb b c)) text

append_one : (x y : List ℕ) → (x ++ 10 ∷ []) ++ y ≡ x ++ 10 ∷ y
append_one x y = append_assoc x (10 ∷ []) y

lacks_parts : (c b : ℕ) (bs : List ℕ) → lacks c (b ∷ bs) ≡ true → (eqb b c ≡ false) × (lacks c bs ≡ true)
lacks_parts c b bs h =
    let p = and_parts (not (eqb b c)) (lacks c bs) h in
    (not-true (eqb b c) p.0, p.1)

pub pieces_at : (c : ℕ) (x y : List ℕ) → lacks c x ≡ true → pieces c (x ++ c ∷ y) ≡ x ∷ pieces c y
unfolding pieces
pieces_at c [] y h = let t : eqb c c ≡ true = eq-eqb c c refl in rw t refl
pieces_at c (b ∷ x) y h =
    let p = lacks_parts c b x h in
    rw (p.0, pieces_at c x y p.1) refl

pub pieces_whole : (c : ℕ) (x : List ℕ) → lacks c x ≡ true → pieces c x ≡ x ∷ []
unfolding pieces
pieces_whole c [] h = refl
pieces_whole c (b ∷ x) h =
    let p = lacks_parts c b x h in
    rw (p.0, pieces_whole c x p.1) refl

-- words that are joined are cut again
pub words_again : (c : ℕ) (w : List ℕ) (ws : List (List ℕ)) → list_all (lacks c) (w ∷ ws) ≡ true → pieces c (join_with_byte c (w ∷ ws)) ≡ w ∷ ws
words_again c w [] h = pieces_whole c w (and_parts (lacks c w) true h).0
words_again c w (v ∷ ws) h =
    let p = and_parts (lacks c w) (list_all (lacks c) (v ∷ ws)) h in
    pieces_at c w (join_with_byte c (v ∷ ws)) p.0 ∙ ap (λ (t : List (List ℕ)). w ∷ t) (words_again c v ws p.1)

-- lines, each ended
abbrev pub ended : List (List ℕ) → List ℕ
ended lines = flat_map (λ l. l ++ 10 ∷ []) lines

lines_again : (lines : List (List ℕ)) → list_all (lacks 10) lines ≡ true → pieces 10 (ended lines) ≡ lines ++ [] ∷ []
unfolding pieces
lines_again [] h = refl
lines_again (l ∷ lines) h =
    let p = and_parts (lacks 10 l) (list_all (lacks 10) lines) h in
    ap (pieces 10) (append_one l (ended lines)) ∙ (pieces_at 10 l (ended lines) p.0 ∙ ap (λ (t : List (List ℕ)). l ∷ t) (lines_again lines p.1))

front_is : (lines : List (List ℕ)) (x : List ℕ) → all_but_last (lines ++ x ∷ []) ≡ lines
front_is [] x = refl
front_is (l ∷ []) x = refl
front_is (l ∷ m ∷ lines) x = ap (λ (t : List (List ℕ)). l ∷ t) (front_is (m ∷ lines) x)

end_is : (lines : List (List ℕ)) (x : List ℕ) → last_one (lines ++ x ∷ []) ≡ x
end_is [] x = refl
end_is (l ∷ []) x = refl
end_is (l ∷ m ∷ lines) x = end_is (m ∷ lines) x

-- lines that are ended are cut again, and nothing stands behind them
pub lines_are : (lines : List (List ℕ)) → list_all (lacks 10) lines ≡ true → lines_of (ended lines) ≡ lines
lines_are lines h = ap all_but_last (lines_again lines h) ∙ front_is lines []

pub rest_is : (lines : List (List ℕ)) → list_all (lacks 10) lines ≡ true → rest_of (ended lines) ≡ []
rest_is lines h = ap last_one (lines_again lines h) ∙ end_is lines []

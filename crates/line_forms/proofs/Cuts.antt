-- A text that is cut at a byte, and its pieces.
use Rattle.std.proofs.Common.{◌≡◌, ℕ, suc, Bool, true, false, not, eqb, ltb, List, [], ◌∷◌, length, Option, Some, None, refl, sym, ap, ◌∙◌, Bor, arith, add-one}
use Rattle.std.{proofs.{Math.Numerals.{one-add}, lemmas.Bool.{lt-ltb, ltb-true, ltb-false, le-ltb}}}
use Rattle.std.specs.{List.{starts_with}, Option.{option_map}}
use Rattle.script_spec.specs.Lines.{pieces}
use Rattle.line_forms.specs.{declared.words.Words.{Words}, Words.{◌>>=◌, cut, left, pieces_behind, next_of, end_of, strip, behind}, Leaves.{number, number_at, number_if}}

abbrev differs : ℕ → ℕ → Bool
differs c b = not (eqb b c)

pub cut_here : (c b : ℕ) (bs : List ℕ) → eqb b c ≡ true → cut c (b ∷ bs) ≡ ([], Some bs)
unfolding cut
cut_here c b bs t = grind (arith, ltb, length, true, lt-ltb)

pub cut_nothing : (c : ℕ) → cut c [] ≡ ([], None)
unfolding cut
cut_nothing c = refl

pub cut_later : (c b : ℕ) (bs : List ℕ) → eqb b c ≡ false → cut c (b ∷ bs) ≡ (b ∷ (cut c bs).0, (cut c bs).1)
unfolding cut
cut_later c b bs f = grind (arith, suc, one-add, ltb, length, ltb-true, true, lt-ltb, add-one, ltb-false, false, le-ltb)

-- a text's first piece ends where it is cut
pub pieces_cut : (c : ℕ) (text : List ℕ) → pieces c text ≡ (cut c text).0 ∷ pieces_behind c (cut c text).1
unfolding pieces
pieces_cut c [] = rw (cut_nothing c) refl
pieces_cut c (b ∷ bs) = grind (arith, eqb, cut_here, cut_later, pieces_cut c bs)

-- what a cursor has left
behind_is : (rest : Option (Bor (List ℕ))) (by : ℕ) → left (record { rest = rest; by = by }) ≡ pieces_behind by (option_map (λ t. t.now) rest)
behind_is None by = refl
behind_is (Some text) by = refl

left_is : (w : Words) (text : Bor (List ℕ)) → w.rest ≡ Some text → left w ≡ pieces w.by text.now
left_is w text e = rw e refl

pub next_is : (w : Words) (text : Bor (List ℕ)) (word : List ℕ) (rest : Option (Bor (List ℕ))) → w.rest ≡ Some text → (word, option_map (λ t. t.now) rest) ≡ cut w.by text.now
    → Some (word, left (record { rest = rest; by = w.by })) ≡ next_of (left w)
next_is w text word rest e c =
    let parts : left w ≡ (cut w.by text.now).0 ∷ pieces_behind w.by (cut w.by text.now).1 = left_is w text e ∙ pieces_cut w.by text.now in
    let same : left w ≡ word ∷ left (record { rest = rest; by = w.by }) = parts ∙ (ap (λ (x : List ℕ × Option (List ℕ)). x.0 ∷ pieces_behind w.by x.1) (sym c) ∙ ap (λ (ws : List (List ℕ)). word ∷ ws) (sym (behind_is rest w.by))) in
    ap next_of (sym same)

pub end_is : (w : Words) (text : Bor (List ℕ)) → w.rest ≡ Some text → None ≡ end_of (left w)
end_is w text e = ap end_of (sym (left_is w text e ∙ pieces_cut w.by text.now))

-- a word begins with no literal with which the text does not begin
front_begins : (c : ℕ) (literal text : List ℕ) → starts_with eqb text literal ≡ false → starts_with eqb (cut c text).0 literal ≡ false
front_begins c [] text f = absurd cc
front_begins c (l ∷ ls) [] f = rw (cut_nothing c) f
front_begins c (l ∷ ls) (b ∷ bs) f = grind (arith, cut_here, cut_later, front_begins c ls bs)

strip_none : (literal text : List ℕ) → starts_with eqb text literal ≡ false → strip literal text ≡ None
unfolding strip
strip_none literal text f = rw f refl

pub begins_with_none : (w : Words) (literal : List ℕ) (text : Bor (List ℕ)) → w.rest ≡ Some text → starts_with eqb text.now literal ≡ false
    → behind literal (left w) ≡ None
begins_with_none w literal text e f =
    let all : left w ≡ (cut w.by text.now).0 ∷ pieces_behind w.by (cut w.by text.now).1 = left_is w text e ∙ pieces_cut w.by text.now in
    rw all (strip_none literal (cut w.by text.now).0 (front_begins w.by literal text.now f))

-- a number and the words behind it, or else the words
abbrev number_or : List (List ℕ) → Option (ℕ × List (List ℕ)) → Option ℕ × List (List ℕ)
number_or words (Some x) = (Some x.0, x.1)
number_or words None = (None, words)

-- then it is no number behind the literal
pub no_number : (key : List ℕ) (radix most : ℕ) (words : List (List ℕ)) → behind key words ≡ None → (None, words) ≡ number_if key radix most words
unfolding number_if number_at
no_number key radix most [] none = refl
no_number key radix most (word ∷ words) none =
    ap (λ (o : Option (List ℕ)). number_or (word ∷ words) (o >>= λ text. number radix most text >>= λ n. Some (n, words))) (sym none)

-- The sixteen digits of a word behind a space, from the last to the first.
use Rattle.std.specs.{Prelude.{◌≡◌, ℕ, suc, ◌+◌, ◌-◌, ◌/◌, ◌%◌, ◌<◌, false, List, [], ◌∷◌, ◌++◌, drop, length, take}, Fmt.{digit_glyph}}
use Rattle.std.proofs.Common.{arith, refl, sym, ap, ◌∙◌, append_assoc, get_or, set}
use Rattle.script_print.proofs.Hexadecimal.{drop_set}
use Rattle.report_spec.specs.Report.{hexadecimal_digits}

-- one digit more was set
pub digit_more : (text : List ℕ) (done left glyph word : ℕ) → length text ≡ 17 → done < 16 → glyph ≡ digit_glyph false (left % 16)
    → hexadecimal_digits (16 - done) left ++ drop (17 - done) text ≡ hexadecimal_digits 16 word
    → hexadecimal_digits (16 - (done + 1)) (left / 16) ++ drop (17 - (done + 1)) (set text (16 - done) glyph) ≡ hexadecimal_digits 16 word
unfolding hexadecimal_digits
digit_more text done left glyph word places more is h =
    let m = 16 - (done + 1) in
    let here : 16 - done ≡ suc m = omega (arith, more) in
    let next : 17 - (done + 1) ≡ suc m = omega (arith, more) in
    let last : 17 - done ≡ suc (suc m) = omega (arith, more) in
    let set_here : drop (suc m) (set text (suc m) glyph) ≡ glyph ∷ drop (suc (suc m)) text = drop_set text (suc m) glyph (omega (arith, places, more)) in
    rw (next, here, set_here, is) (sym (append_assoc (hexadecimal_digits m (left / 16)) (digit_glyph false (left % 16) ∷ []) (drop (suc (suc m)) text)) ∙ (rw (here, last) at h))

-- the space stays before them
pub space_stays : (text : List ℕ) (done glyph : ℕ) → done < 16 → take 1 text ≡ 32 ∷ [] → take 1 (set text (16 - done) glyph) ≡ 32 ∷ []
space_stays text done glyph more h =
    let here : 16 - done ≡ suc (16 - (done + 1)) = omega (arith, more) in
    rw here (first_stays text (16 - (done + 1)) glyph ∙ h)
  where
    first_stays : (text : List ℕ) (k x : ℕ) → take 1 (set text (suc k) x) ≡ take 1 text
    first_stays [] k x = refl
    first_stays (y ∷ text) k x = refl

-- all digits were set
pub digits_end : (text : List ℕ) (left word : ℕ) → take 1 text ≡ 32 ∷ [] → hexadecimal_digits 0 left ++ drop 1 text ≡ hexadecimal_digits 16 word → text ≡ 32 ∷ hexadecimal_digits 16 word
unfolding hexadecimal_digits
digits_end [] left word space h = absurd (omega (arith, ap length space))
digits_end (x ∷ text) left word space h = ap (λ y. y ∷ text) (ap (λ t. get_or t 0 0) space) ∙ ap (λ t. 32 ∷ t) h

-- The digits of a hexadecimal number, from the last to the first.
use Rattle.std.proofs.Common.{◌≡◌, ℕ, zero, suc, ◌+◌, ◌-◌, ◌*◌, ◌/◌, ◌%◌, ◌^◌, ◌<◌, ◌≤◌, false, eqb, List, [], ◌∷◌, length, drop, set, refl, arith, add-one}
use Rattle.std.{proofs.{Math.Nat.{div-eq_of_lt, mod-eq_of_lt}, lemmas.Bool.{ne_eqb}}, specs.Fmt.{digits, digits_onto, digit_glyph}}
use Rattle.script_spec.specs.Forms.{hexadecimal}

-- the digits that are left to write, before those that are written
unfoldable pub onto : ℕ → ℕ → List ℕ → List ℕ
onto start left written = digits_onto (49 + start) 16 false left written

pub onto_begin : (n : ℕ) → onto 15 n [] ≡ hexadecimal n
unfolding onto digits
onto_begin n = refl

pub onto_last : (start left : ℕ) (written : List ℕ) → left < 16 → onto start left written ≡ digit_glyph false left ∷ written
unfolding onto
onto_last start left written l = grind (arith, div-eq_of_lt, mod-eq_of_lt, suc)

pub onto_more : (start left : ℕ) (written : List ℕ) → 16 ≤ left → 0 < start → onto start left written ≡ onto (start - 1) (left / 16) (digit_glyph false (left % 16) ∷ written)
unfolding onto
onto_more start left written l some = grind (arith, eqb, false, ne_eqb, suc)

pub some_place : (start left : ℕ) → 16 ≤ left → left < 16 ^ (start + 1) → 0 < start
some_place zero left l h = absurd (omega (arith, l, h))
some_place (suc start) left l h = omega arith

pub fewer : (start left : ℕ) → 0 < start → left < 16 ^ (start + 1) → left / 16 < 16 ^ (start - 1 + 1)
fewer zero left some h = absurd (omega (arith, some))
fewer (suc start) left some h =
    let e : suc start - 1 + 1 ≡ suc start = omega arith in
    let p : 16 ^ (suc start + 1) ≡ 16 * 16 ^ suc start = rw add-one (omega arith) in
    rw e (omega (arith, h, p))

pub drop_set : (xs : List ℕ) (i x : ℕ) → i < length xs → drop i (set xs i x) ≡ x ∷ drop (suc i) xs
drop_set [] i x l = absurd (omega (arith, l))
drop_set (y ∷ xs) zero x l = refl
drop_set (y ∷ xs) (suc i) x l = drop_set xs i x (omega (arith, l))

-- one digit more was written
pub digit_more : (places : List ℕ) (start left glyph n : ℕ) → length places ≡ 16 → start ≤ 15 → 16 ≤ left → 0 < start → glyph ≡ digit_glyph false (left % 16)
    → onto start left (drop (start + 1) places) ≡ hexadecimal n → onto (start - 1) (left / 16) (drop (start - 1 + 1) (set places start glyph)) ≡ hexadecimal n
digit_more places start left glyph n len low l some g h = grind (arith, drop, set, suc, drop_set, false, onto_more, add-one)

-- the first digit was written
pub digit_last : (places : List ℕ) (start left glyph n : ℕ) → length places ≡ 16 → start ≤ 15 → left < 16 → glyph ≡ digit_glyph false left
    → onto start left (drop (start + 1) places) ≡ hexadecimal n → drop start (set places start glyph) ≡ hexadecimal n
digit_last places start left glyph n len low l g h = grind (arith, drop, set, suc, drop_set, onto_last, add-one)

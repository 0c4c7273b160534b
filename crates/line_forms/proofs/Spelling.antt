-- Numbers: what is read is what is spelled so, and what is spelled so is read.
use Rattle.std.proofs.Common.{◌≡◌, ◌≢◌, ℕ, suc, ◌+◌, ◌-◌, ◌*◌, ◌/◌, ◌%◌, ◌^◌, ◌<◌, ◌≤◌, Bool, true, false, not, ◌||◌, cond, eqb, leb, ltb, List, [], ◌∷◌, ◌++◌, map, length, get_or, Some, None, if◌then◌else◌, inl, inr, refl, sym, ap, subst, ◌∙◌, arith}
use Rattle.std.proofs.lemmas.Int.Digits.{all_below_base_digits_of, number_digits_of, length-digits_of-le, first_digits_of, number_lt}
use Rattle.std.proofs.lemmas.Nat.{div-mul-add, mod-mul-add}
use Rattle.std.proofs.lemmas.Bool.{cases_lt, eqb-true, ltb-true, leb-true, lt-ltb, le-ltb, le-leb, lt-leb, eq-eqb, ne_eqb, and_parts, and_from}
use Rattle.std.proofs.{lemmas.List.{append-nil, length-map}, Math.Nat.{pow-le-pow_right, le-mul_of_pos_right, div-eq_of_lt, mod-eq_of_lt}}
use Rattle.std.specs.{List.{list_all}, Fmt.{digits, digits_onto, digit_glyph}}
use Rattle.std.specs.Int.Digits.{number_from_digits_after, digits_of, AllBelowBase}
use Rattle.line_forms.specs.Leaves.{digit_of, value_after, is_number, number}

-- ---- single digits

low_digit : (d : ℕ) → d < 10 → digit_of (48 + d) ≡ d
low_digit d l = grind (arith, leb, true, le-leb)

high_digit : (d : ℕ) → 10 ≤ d → d < 16 → digit_of (87 + d) ≡ d
high_digit d l h = grind (arith, leb, false, lt-leb, true, le-leb)

or_true : (b : Bool) → (b || true) ≡ true
or_true true = refl
or_true false = refl

-- one digit is a number
pub digit_read : (c n : ℕ) → n ≡ digit_of c → n < 10 → number 10 20 (c ∷ []) ≡ Some n
unfolding number
digit_read c n e l =
    let below : ltb (digit_of c) 10 ≡ true = lt-ltb _ _ (omega (arith, l, e)) in
    let one : is_number 10 20 (c ∷ []) ≡ true = rw (below, or_true (not (eqb c 48))) refl in
    let value : value_after 10 0 (c ∷ []) ≡ n = omega (arith, e) in
    ap (λ (b : Bool). if b then Some (value_after 10 0 (c ∷ [])) else None) one ∙ ap Some value

-- a digit that is written is read
pub digit_of-glyph : (d : ℕ) → d < 16 → digit_of (digit_glyph false d) ≡ d
digit_of-glyph d l = grind (arith, cases_lt, ltb, true, lt-ltb, low_digit, false, le-ltb, high_digit)

glyph_of : (c d : ℕ) → digit_of c ≡ d → digit_glyph false d ≡ c → digit_glyph false (digit_of c) ≡ c
glyph_of c d e g = rw e g

-- a digit that is read is written so
pub glyph-digit_of : (c : ℕ) → digit_of c < 16 → digit_glyph false (digit_of c) ≡ c
glyph-digit_of c l = grind (arith, leb, and_parts, leb-true, ltb, true, lt-ltb, glyph_of, false, le-ltb)

-- only 0 is written as a zero
pub glyph_zero : (d : ℕ) → d < 16 → digit_glyph false d ≡ 48 → d ≡ 0
glyph_zero d l e = grind (arith, digit_of-glyph)

-- ---- values

-- each byte is a digit of the base
abbrev pub are_below : ℕ → List ℕ → Bool
are_below b text = list_all (λ c. ltb (digit_of c) b) text

head_below : (b c : ℕ) (cs : List ℕ) → are_below b (c ∷ cs) ≡ true → digit_of c < b
head_below b c cs h = ltb-true _ _ (and_parts (ltb (digit_of c) b) (are_below b cs) h).0

tail_below : (b c : ℕ) (cs : List ℕ) → are_below b (c ∷ cs) ≡ true → are_below b cs ≡ true
tail_below b c cs h = (and_parts (ltb (digit_of c) b) (are_below b cs) h).1

value_is : (b n : ℕ) (text : List ℕ) → value_after b n text ≡ number_from_digits_after b n (map digit_of text)
value_is b n [] = refl
value_is b n (c ∷ cs) = value_is b (n * b + digit_of c) cs

below_from : (b : ℕ) (text : List ℕ) → are_below b text ≡ true → AllBelowBase b (map digit_of text)
below_from b [] h = tt
below_from b (c ∷ cs) h = (head_below b c cs h, below_from b cs (tail_below b c cs h))

pub value_lt : (b : ℕ) (text : List ℕ) → are_below b text ≡ true → value_after b 0 text < b ^ length text
value_lt b text h = grind (arith, map, length, number_lt, below_from, value_is, length-map)

-- ---- from a text to its number

-- what stands behind a number's digits is written behind them
onto : (b k acc : ℕ) (text rest : List ℕ) → 2 ≤ b → b ≤ 16 → 0 < acc → are_below b text ≡ true
    → digits_onto (k + length text) b false (value_after b acc text) rest ≡ digits_onto k b false acc (text ++ rest)
onto b k acc [] rest low high some h = let z : k + 0 ≡ k = omega arith in rw z refl
onto b k acc (c ∷ cs) rest low high some h =
    let d : digit_of c < b = head_below b c cs h in
    let n : k + length (c ∷ cs) ≡ suc k + length cs = omega arith in
    let ih : digits_onto (suc k + length cs) b false (value_after b (acc * b + digit_of c) cs) rest ≡ digits_onto (suc k) b false (acc * b + digit_of c) (cs ++ rest) =
    onto b (suc k) (acc * b + digit_of c) cs rest low high (omega (arith, le-mul_of_pos_right {m = b} acc (omega arith))) (tail_below b c cs h) in
    let q : (acc * b + digit_of c) / b ≡ acc = div-mul-add acc b (digit_of c) d in
    let r : (acc * b + digit_of c) % b ≡ digit_of c = mod-mul-add acc b (digit_of c) d in
    let z : eqb acc 0 ≡ false = ne_eqb _ _ (λ e. absurd (omega (arith, e))) in
    let g : digit_glyph false (digit_of c) ≡ c = glyph-digit_of c (omega arith) in
    rw n (ih ∙ rw (q, r, z, g) refl)

-- what the test of a number says
pub record IsNumber (b most : ℕ) (text : List ℕ) : Type 0 where
  pub some : 0 < length text
  pub few : length text ≤ most
  pub no_zero : get_or text 0 0 ≡ 48 → length text ≡ 1
  pub below : are_below b text ≡ true

is_number-true : (b most : ℕ) (text : List ℕ) → is_number b most text ≡ true → IsNumber b most text
is_number-true b most text h = grind (arith, and_parts, ltb, length, leb, not, eqb, get_or, ltb-true, leb-true, true, eq-eqb, eqb-true)

zero_test : (x l : ℕ) → (x ≡ 48 → l ≡ 1) → (not (eqb x 48) || eqb l 1) ≡ true
zero_test x l h = grind (arith, eqb, true, eq-eqb, eqb-true)

is_number-from : (b most : ℕ) (text : List ℕ) → IsNumber b most text → is_number b most text ≡ true
is_number-from b most text h = grind (arith, ltb, length, true, lt-ltb, leb, le-leb, not, eqb, get_or, zero_test)

-- a first digit that is no zero, and those behind it
first_written : (b k d : ℕ) (rest : List ℕ) → d < b → digits_onto (suc k) b false d rest ≡ digit_glyph false d ∷ rest
first_written b k d rest l = grind (arith, div-eq_of_lt, mod-eq_of_lt)

written_from : (b k fuel c : ℕ) (cs : List ℕ) → 2 ≤ b → b ≤ 16 → 0 < digit_of c → are_below b (c ∷ cs) ≡ true → fuel ≡ suc k + length cs
    → digits_onto fuel b false (value_after b (digit_of c) cs) [] ≡ c ∷ cs
written_from b k fuel c cs low high some h e =
    let d : digit_of c < b = head_below b c cs h in
    let g : digit_glyph false (digit_of c) ≡ c = glyph-digit_of c (omega arith) in
    let o : digits_onto (suc k + length cs) b false (value_after b (digit_of c) cs) [] ≡ digits_onto (suc k) b false (digit_of c) (cs ++ []) = onto b (suc k) (digit_of c) cs [] low high some (tail_below b c cs h) in
    let f : digits_onto (suc k) b false (digit_of c) (cs ++ []) ≡ digit_glyph false (digit_of c) ∷ (cs ++ []) = first_written b k (digit_of c) (cs ++ []) d in
    ap (λ n. digits_onto n b false (value_after b (digit_of c) cs) []) e ∙ (o ∙ (f ∙ (ap (λ x. x ∷ (cs ++ [])) g ∙ ap (λ (t : List ℕ). c ∷ t) (append-nil cs))))

-- what was read as a number is written so
written : (b : ℕ) (text : List ℕ) → 2 ≤ b → b ≤ 16 → IsNumber b 64 text → digits b false (value_after b 0 text) ≡ text
unfolding digits
written b [] low high h = absurd (omega (arith, h.some))
written b (c ∷ []) low high h =
    let d : digit_of c < b = head_below b c [] h.below in
    let g : digit_glyph false (digit_of c) ≡ c = glyph-digit_of c (omega arith) in
    let z : 0 * b + digit_of c ≡ digit_of c = omega arith in
    ap (λ n. digits_onto 64 b false n []) z ∙ (first_written b 63 (digit_of c) [] d ∙ ap (λ x. x ∷ []) g)
written b (c ∷ e ∷ cs) low high h =
    let d : digit_of c < b = head_below b c (e ∷ cs) h.below in
    let g : digit_glyph false (digit_of c) ≡ c = glyph-digit_of c (omega arith) in
    let z : 0 * b + digit_of c ≡ digit_of c = omega arith in
    let no_zero : c ≢ 48 = λ x. let one : length (c ∷ e ∷ cs) ≡ 1 = h.no_zero x in absurd (omega (arith, one)) in
    let some : 0 < digit_of c = grind (arith, cases_lt, false) in
    let few : length (e ∷ cs) ≤ 63 = omega (arith, h.few) in
    let k : 64 ≡ suc (63 - length (e ∷ cs)) + length (e ∷ cs) = omega arith in
    ap (λ n. digits_onto 64 b false (value_after b n (e ∷ cs)) []) z ∙ written_from b (63 - length (e ∷ cs)) 64 c (e ∷ cs) low high some h.below k

-- what is given under a test
pub guard_some : {A : Type 0} (b : Bool) (x y : A) → cond b (Some x) None ≡ Some y → (b ≡ true) × (x ≡ y)
guard_some true x y e = (refl, cc)
guard_some false x y e = absurd cc

pub number_takes : (b most n : ℕ) (text : List ℕ) → 2 ≤ b → b ≤ 16 → most ≤ 64 → number b most text ≡ Some n → (n < b ^ most) × (text ≡ digits b false n)
unfolding number
number_takes b most n text low high few e = grind (arith, guard_some, is_number-true, length, value_lt, pow-le-pow_right, false, written)

-- ---- from a number to its text

-- digits as they are written
abbrev glyphs : List ℕ → List ℕ
glyphs ds = map (digit_glyph false) ds

glyphs_below : (b : ℕ) (ds : List ℕ) → b ≤ 16 → AllBelowBase b ds → are_below b (glyphs ds) ≡ true
glyphs_below b [] high h = refl
glyphs_below b (d ∷ ds) high h = grind (arith, false, digit_of-glyph, ltb, true, lt-ltb, and_from, glyphs_below b ds high h.1)

glyphs_value : (b n : ℕ) (ds : List ℕ) → b ≤ 16 → AllBelowBase b ds → value_after b n (glyphs ds) ≡ number_from_digits_after b n ds
glyphs_value b n [] high h = refl
glyphs_value b n (d ∷ ds) high h = grind (arith, false, digit_of-glyph, glyphs_value b (n * b + d) ds high h.1)

first_glyph : (ds : List ℕ) → 0 < get_or ds 0 0 → get_or ds 0 0 < 16 → get_or (glyphs ds) 0 0 ≡ 48 → ⊥
first_glyph [] some low e = omega (arith, some)
first_glyph (d ∷ ds) some low e = let z : d ≡ 0 = glyph_zero d low e in omega (arith, some, z)

first_below : (b : ℕ) (ds : List ℕ) → 0 < b → b ≤ 16 → AllBelowBase b ds → get_or ds 0 0 < 16
first_below b [] pos high h = omega arith
first_below b (d ∷ ds) pos high h = omega (arith, h.0)

not_empty : (ds : List ℕ) → 0 < get_or ds 0 0 → 0 < length (glyphs ds)
not_empty [] h = absurd (omega (arith, h))
not_empty (d ∷ ds) h = omega arith

-- a text that is read as the number
record Reads (b most n : ℕ) : Type 0 where
  text : List ℕ
  is : IsNumber b most text
  value : value_after b 0 text ≡ n

reads_some : (b most n : ℕ) → 2 ≤ b → b ≤ 16 → 0 < n → n < b ^ most → Reads b most n
reads_some b most n low high some h =
    let below = all_below_base_digits_of b n low in
    let first : 0 < get_or (digits_of b n) 0 0 = first_digits_of b n low some in
    let few : length (digits_of b n) ≤ most = length-digits_of-le b most n low h in
    grind (arith, not_empty, first, few, length-map, false, first_glyph, first_below, glyphs_below, glyphs_value, number_digits_of)

reads_zero : (b most : ℕ) → 2 ≤ b → 0 < most → Reads b most 0
reads_zero b most low some = record {
  text = 48 ∷ [];
  is = record {
    some = omega arith;
    few = omega arith;
    no_zero = λ e. refl;
    below = let t : ltb 0 b ≡ true = lt-ltb _ _ (omega arith) in rw t refl;
  };
  value = omega arith;
}

reads : (b most n : ℕ) → 2 ≤ b → b ≤ 16 → 0 < most → n < b ^ most → Reads b most n
reads b most n low high some h = elim (cases_lt 0 n) [
  | inl pos ↦ reads_some b most n low high pos h
  | inr none ↦ let z : n ≡ 0 = omega arith in subst (Reads b most) (sym z) (reads_zero b most low some)
]

number_read : (b most : ℕ) (text : List ℕ) → IsNumber b most text → number b most text ≡ Some (value_after b 0 text)
unfolding number
number_read b most text h = let t : is_number b most text ≡ true = is_number-from b most text h in rw t refl

pub number_again : (b most n : ℕ) → 2 ≤ b → b ≤ 16 → 0 < most → most ≤ 64 → n < b ^ most → number b most (digits b false n) ≡ Some n
number_again b most n low high some few h =
    let r = reads b most n low high some h in
    let wide : IsNumber b 64 r.text = record { some = r.is.some; few = omega (arith, r.is.few); no_zero = r.is.no_zero; below = r.is.below } in
    let text : digits b false n ≡ r.text = ap (digits b false) (sym r.value) ∙ written b r.text low high wide in
    ap (number b most) text ∙ (number_read b most r.text r.is ∙ ap Some r.value)

pub decimal_below : (n : ℕ) → n < 10 ^ 20 → list_all (λ c. ltb (digit_of c) 10) (digits 10 false n) ≡ true
decimal_below n h =
    let r = reads 10 20 n (omega arith) (omega arith) (omega arith) h in
    let wide : IsNumber 10 64 r.text = record { some = r.is.some; few = omega (arith, r.is.few); no_zero = r.is.no_zero; below = r.is.below } in
    let text : digits 10 false n ≡ r.text = ap (digits 10 false) (sym r.value) ∙ written 10 r.text (omega arith) (omega arith) wide in
    rw text r.is.below

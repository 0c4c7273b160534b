-- Numbers and flags: that their sums fit, and what a chain of steps gives.
use Rattle.std.proofs.Common.{◌≡◌, ℕ, ◌+◌, ◌*◌, ◌^◌, ◌<◌, ◌≤◌, Bool, true, false, List, [], ◌∷◌, length, map, drop, get_or, Option, Some, None, refl, sym, ap, ◌∙◌, arith}
use Rattle.std.proofs.{lemmas.List.{drop_more, get_or-map, length-map, Sums.{sum_by-cons}}, Math.ListN.{drop_of_length-le}}
use Rattle.std.{proofs.Math.Nat.{mul-le-mul_left, pow-le-pow_right}, specs.Prelude.{sum_by}}
use Rattle.perf_base.specs.Flags.{flag_table}
use Rattle.script_spec.specs.Lines.{pieces}
use Rattle.line_forms.specs.{Words.{◌>>=◌, end_of}, Leaves.{word_if, bit, flag_if, flags_in, flags}}

power_le : (i : ℕ) → i < 20 → 16 ^ i ≤ 16 ^ 19
power_le i l = let le : i ≤ 19 = omega arith in pow-le-pow_right {n = 16} (omega arith) le

-- at most 20 digits fit
pub digit_fits : (value radix digit i : ℕ) → value + 2 ≤ 2 * 16 ^ i → radix ≤ 16 → digit ≤ 16 → i < 20 → value * radix + digit < 2 ^ 128
digit_fits value radix digit i h r d l = grind (arith, mul-le-mul_left, power_le)

short_power_le : (i : ℕ) → i < 15 → 16 ^ i ≤ 16 ^ 14
short_power_le i l = let le : i ≤ 14 = omega arith in pow-le-pow_right {n = 16} (omega arith) le

-- 64 bits hold at most 15
pub short_digit_fits : (value radix digit i : ℕ) → value + 2 ≤ 2 * 16 ^ i → radix ≤ 16 → digit ≤ 16 → i < 15 → value * radix + digit < 2 ^ 64
short_digit_fits value radix digit i h r d l = grind (arith, mul-le-mul_left, short_power_le)

-- the flags of a table from a place on, where that place's flag was looked for
pub flags_step : (rows : List (List ℕ × ℕ)) (i : ℕ) (row : List ℕ × ℕ) (words : List (List ℕ)) → i < length rows → get_or rows i ([], 0) ≡ row
    → flags_in (drop i rows) words
    ≡ ((flag_if row.0 row.1 words).0 + (flags_in (drop (i + 1) rows) (flag_if row.0 row.1 words).1).0, (flags_in (drop (i + 1) rows) (flag_if row.0 row.1 words).1).1)
unfolding flags_in
flags_step rows i row words l e =
    let cut : drop i rows ≡ row ∷ drop (i + 1) rows = drop_more rows i ([], 0) l ∙ ap (λ (r : List ℕ × ℕ). r ∷ drop (i + 1) rows) e in
    rw cut refl

bit_most : (n : ℕ) (b : Bool) → n * bit b ≤ n
bit_most n true = omega arith
bit_most n false = omega arith

-- they are no more than all of the table
pub flags_most : (rows : List (List ℕ × ℕ)) (words : List (List ℕ)) → (flags_in rows words).0 ≤ sum_by (λ row. row.1) rows
unfolding flags_in
flags_most [] words = omega arith
flags_most (row ∷ rows) words =
    let others = flags_most rows (word_if row.0 words).1 in
    rw (sum_by-cons (λ (r : List ℕ × ℕ). r.1) row rows) (omega (arith, bit_most row.1 (word_if row.0 words).0, others))

-- one flag more: the bits so far and those that may follow are the same in all, and so are the words behind
pub flag_kept : {X : Type 0} (row : X → List ℕ × ℕ) (items : List X) (rows : List (List ℕ × ℕ)) (i : ℕ) (d : X) (word : List ℕ) (words after all : List (List ℕ)) (sum own : ℕ)
    → map row items ≡ rows → i < length items → word ≡ (row (get_or items i d)).0 → (own, after) ≡ flag_if word (row (get_or items i d)).1 words
    → sum + (flags_in (drop i rows) words).0 ≡ (flags_in rows all).0 → (flags_in (drop i rows) words).1 ≡ (flags_in rows all).1
    → (sum + own + (flags_in (drop (i + 1) rows) after).0 ≡ (flags_in rows all).0) × ((flags_in (drop (i + 1) rows) after).1 ≡ (flags_in rows all).1)
flag_kept row items rows i d word words after all sum own e l w f h k =
    let n : ℕ = (row (get_or items i d)).1 in
    let at : get_or rows i ([], 0) ≡ (word, n) = ap (λ (rs : List (List ℕ × ℕ)). get_or rs i ([], 0)) (sym e) ∙ (get_or-map row items i d ([], 0) l ∙ ap (λ (x : List ℕ). (x, n)) (sym w)) in
    let longer : length items ≡ length rows = sym (length-map items row) ∙ ap length e in
    let step = flags_step rows i (word, n) words (omega (arith, l, longer)) at in
    let own_is : own ≡ (flag_if word n words).0 = ap (λ (x : ℕ × List (List ℕ)). x.0) f in
    let after_is : after ≡ (flag_if word n words).1 = ap (λ (x : ℕ × List (List ℕ)). x.1) f in
    let bits : (flags_in (drop i rows) words).0 ≡ own + (flags_in (drop (i + 1) rows) after).0 = ap (λ (x : ℕ × List (List ℕ)). x.0) step ∙ rw (own_is, after_is) refl in
    let behind : (flags_in (drop i rows) words).1 ≡ (flags_in (drop (i + 1) rows) after).1 = ap (λ (x : ℕ × List (List ℕ)). x.1) step ∙ rw after_is refl in
    (omega (arith, h, bits), sym behind ∙ k)

-- behind the last flag all were looked for
pub flags_done : {X : Type 0} (row : X → List ℕ × ℕ) (items : List X) (rows : List (List ℕ × ℕ)) (i : ℕ) (words all : List (List ℕ)) (sum : ℕ)
    → map row items ≡ rows → length items ≤ i
    → sum + (flags_in (drop i rows) words).0 ≡ (flags_in rows all).0 → (flags_in (drop i rows) words).1 ≡ (flags_in rows all).1
    → (sum ≡ (flags_in rows all).0) × (words ≡ (flags_in rows all).1)
unfolding flags_in
flags_done row items rows i words all sum e l h k = grind (arith, length, length-map, drop, drop_of_length-le)

pub flags_by : (text : List ℕ) (words after : List (List ℕ)) (sum : ℕ) → words ≡ pieces 44 text → sum ≡ (flags_in flag_table words).0 → after ≡ (flags_in flag_table words).1
    → flags text ≡ (end_of after >>= λ _. Some sum)
unfolding flags
flags_by text words after sum w s a = rw (a, s, w) refl

pub then_none : {A B : Type 0} (r : Option A) (f : A → Option B) (whole : Option B) → whole ≡ (r >>= f) → None ≡ r → None ≡ whole
then_none r f whole w e = sym (w ∙ ap (λ q. q >>= f) (sym e))

pub then_some : {A B : Type 0} (x : A) (r : Option A) (f : A → Option B) (whole : Option B) → whole ≡ (r >>= f) → Some x ≡ r → f x ≡ whole
then_some x r f whole w e = sym (w ∙ ap (λ q. q >>= f) (sym e))

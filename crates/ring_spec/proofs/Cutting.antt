-- The words of records are cut in one way alone.
use Rattle.std.specs.{Prelude.{◌≡◌, ℕ, ◌+◌, ◌*◌, ◌<◌, ◌≤◌, List, [], ◌∷◌, ◌++◌, length, map, take, drop}, List.{concat}}
use Rattle.std.proofs.{Common.{arith, refl, sym, ap, ◌∙◌, get_or}, lemmas.{List.{Elements.{All-map}, Concat.{flat_map-cons}}, Nat.{div-mul-add}}}
use Rattle.std.proofs.Math.{Seq.{drop-append_seam, take-append_seam}, Nat.{mod-eq_of_lt}}
use Rattle.perf_base.specs.declared.lines.Mode.{Mode}
use Rattle.perf_base.specs.declared.lines.Mode.TheVariants as mode
use Rattle.ring_spec.specs.Whole.{IsBlock, size_field}
use Rattle.ring_spec.specs.Records.{Record, Sample, Lost, misc_of, header, record_words, words_of, IsRecord, WordsLaw, WholeLaw}

-- lists that begin alike go on alike
front : (xs ys us vs : List ℕ) → length xs ≡ length ys → xs ++ us ≡ ys ++ vs → xs ≡ ys
front xs ys us vs n e = sym (take-append_seam xs us) ∙ (ap (take (length xs)) e ∙ (ap (λ k. take k (ys ++ vs)) n ∙ take-append_seam ys vs))

pub back : (xs ys us vs : List ℕ) → length xs ≡ length ys → xs ++ us ≡ ys ++ vs → us ≡ vs
back xs ys us vs n e = sym (drop-append_seam xs us) ∙ (ap (drop (length xs)) e ∙ (ap (λ k. drop k (ys ++ vs)) n ∙ drop-append_seam ys vs))

first : (x y : ℕ) (xs ys : List ℕ) → x ∷ xs ≡ y ∷ ys → x ≡ y
first x y xs ys e = ap (λ l. get_or l 0 0) e

others : (x y : ℕ) (xs ys : List ℕ) → x ∷ xs ≡ y ∷ ys → xs ≡ ys
others x y xs ys e = ap (drop 1) e

-- the same header is of the same mode and the same length
header-words : (type misc type2 misc2 n m : ℕ) → type < 16 → type2 < 16 → misc < 4 → misc2 < 4 → header type misc n ≡ header type2 misc2 m → n ≡ m
header-words type misc type2 misc2 n m a b c d e = omega (arith, e)

header-misc : (type misc type2 misc2 n m : ℕ) → type < 16 → type2 < 16 → misc < 4 → misc2 < 4 → header type misc n ≡ header type2 misc2 m → misc ≡ misc2
header-misc type misc type2 misc2 n m a b c d e = omega (arith, e)

header-type : (type misc type2 misc2 n m : ℕ) → type < 16 → type2 < 16 → misc < 4 → misc2 < 4 → header type misc n ≡ header type2 misc2 m → type ≡ type2
header-type type misc type2 misc2 n m a b c d e = omega (arith, e)

misc-low : (m : Mode) → misc_of m < 4
misc-low mode.Kernel = omega arith
misc-low mode.User = omega arith

same_mode : (m n : Mode) → misc_of m ≡ misc_of n → m ≡ n
same_mode mode.Kernel mode.Kernel e = refl
same_mode mode.Kernel mode.User e = absurd (omega (arith, e))
same_mode mode.User mode.Kernel e = absurd (omega (arith, e))
same_mode mode.User mode.User e = refl

record Alike (r q : Record) (us vs : List ℕ) : Type 0 where
  pub records : r ≡ q
  pub rests : us ≡ vs

alike : (r q : Record) (us vs : List ℕ) → record_words r ++ us ≡ record_words q ++ vs → Alike r q us vs
alike (Sample m b) (Sample n c) us vs e =
    let head : header 9 (misc_of m) (length b + 1) ≡ header 9 (misc_of n) (length c + 1) = first (header 9 (misc_of m) (length b + 1)) (header 9 (misc_of n) (length c + 1)) (b ++ us) (c ++ vs) e in
    let rest : b ++ us ≡ c ++ vs = others (header 9 (misc_of m) (length b + 1)) (header 9 (misc_of n) (length c + 1)) (b ++ us) (c ++ vs) e in
    let long : length b ≡ length c = omega (arith, header-words 9 (misc_of m) 9 (misc_of n) (length b + 1) (length c + 1) (omega arith) (omega arith) (misc-low m) (misc-low n) head) in
    let modes : m ≡ n = same_mode m n (header-misc 9 (misc_of m) 9 (misc_of n) (length b + 1) (length c + 1) (omega arith) (omega arith) (misc-low m) (misc-low n) head) in
    record { records = ap (λ k. Sample k b) modes ∙ ap (Sample n) (front b c us vs long rest); rests = back b c us vs long rest }
alike (Sample m b) (Lost id lost trailer) us vs e =
    let head : header 9 (misc_of m) (length b + 1) ≡ header 2 0 (length trailer + 3) = first (header 9 (misc_of m) (length b + 1)) (header 2 0 (length trailer + 3)) (b ++ us) (id ∷ lost ∷ trailer ++ vs) e in
    let types : 9 ≡ 2 = header-type 9 (misc_of m) 2 0 (length b + 1) (length trailer + 3) (omega arith) (omega arith) (misc-low m) (omega arith) head in
    absurd (omega (arith, types))
alike (Lost id lost trailer) (Sample n c) us vs e =
    let head : header 2 0 (length trailer + 3) ≡ header 9 (misc_of n) (length c + 1) = first (header 2 0 (length trailer + 3)) (header 9 (misc_of n) (length c + 1)) (id ∷ lost ∷ trailer ++ us) (c ++ vs) e in
    let types : 2 ≡ 9 = header-type 2 0 9 (misc_of n) (length trailer + 3) (length c + 1) (omega arith) (omega arith) (omega arith) (misc-low n) head in
    absurd (omega (arith, types))
alike (Lost id lost trailer) (Lost id2 lost2 trailer2) us vs e =
    let head : header 2 0 (length trailer + 3) ≡ header 2 0 (length trailer2 + 3) = first (header 2 0 (length trailer + 3)) (header 2 0 (length trailer2 + 3)) (id ∷ lost ∷ trailer ++ us) (id2 ∷ lost2 ∷ trailer2 ++ vs) e in
    let after : id ∷ lost ∷ trailer ++ us ≡ id2 ∷ lost2 ∷ trailer2 ++ vs = others (header 2 0 (length trailer + 3)) (header 2 0 (length trailer2 + 3)) (id ∷ lost ∷ trailer ++ us) (id2 ∷ lost2 ∷ trailer2 ++ vs) e in
    let behind : lost ∷ trailer ++ us ≡ lost2 ∷ trailer2 ++ vs = others id id2 (lost ∷ trailer ++ us) (lost2 ∷ trailer2 ++ vs) after in
    let rest : trailer ++ us ≡ trailer2 ++ vs = others lost lost2 (trailer ++ us) (trailer2 ++ vs) behind in
    let long : length trailer ≡ length trailer2 = omega (arith, header-words 2 0 2 0 (length trailer + 3) (length trailer2 + 3) (omega arith) (omega arith) (omega arith) (omega arith) head) in
    let ids : id ≡ id2 = first id id2 (lost ∷ trailer ++ us) (lost2 ∷ trailer2 ++ vs) after in
    let losses : lost ≡ lost2 = first lost lost2 (trailer ++ us) (trailer2 ++ vs) behind in
    grind (arith, ids, losses, front, long, rest, back)

not_none : (r : Record) (us : List ℕ) → record_words r ++ us ≡ [] → ⊥
not_none (Sample m b) us e = absurd (omega (arith, ap length e))
not_none (Lost id lost trailer) us e = absurd (omega (arith, ap length e))

pub words_law : WordsLaw
words_law [] [] e = refl
words_law [] (q ∷ qs) e = absurd (not_none q (words_of qs) (sym (flat_map-cons record_words q qs) ∙ sym e))
words_law (r ∷ rs) [] e = absurd (not_none r (words_of rs) (sym (flat_map-cons record_words r rs) ∙ e))
words_law (r ∷ rs) (q ∷ qs) e =
    let h : Alike r q (words_of rs) (words_of qs) = alike r q (words_of rs) (words_of qs) (sym (flat_map-cons record_words r rs) ∙ (e ∙ flat_map-cons record_words q qs)) in
    ap (λ x. x ∷ rs) h.records ∙ ap (λ xs. q ∷ xs) (words_law rs qs h.rests)

-- each record is a block
size_field-header : (type misc n : ℕ) → type < 16 → misc < 4 → n ≤ 9 → size_field (header type misc n) ≡ 8 * n
size_field-header type misc n a b c = grind (arith, div-mul-add, mod-eq_of_lt)

pub block-of : (r : Record) → IsRecord r → IsBlock (record_words r)
block-of (Sample m b) h = size_field-header 9 (misc_of m) (length b + 1) (omega arith) (misc-low m) (omega arith) ∙ omega arith
block-of (Lost id lost trailer) h = size_field-header 2 0 (length trailer + 3) (omega arith) (omega arith) (omega arith) ∙ omega arith

concat-words : (rs : List Record) → concat (map record_words rs) ≡ words_of rs
concat-words [] = refl
concat-words (r ∷ rs) = ap (λ ws. record_words r ++ ws) (concat-words rs) ∙ sym (flat_map-cons record_words r rs)

pub whole_law : WholeLaw
whole_law rs h = (map record_words rs, All-map IsBlock record_words rs (λ k d l. block-of (get_or rs k d) (h k d l)), concat-words rs)

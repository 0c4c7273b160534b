-- The line of an attribute's bytes has room.
use Rattle.std.proofs.Common.{◌≡◌, ℕ, zero, suc, ◌+◌, ◌/◌, ◌%◌, ◌<◌, ◌≤◌, inl, inr, Bool, true, false, eqb, ltb, List, [], ◌∷◌, ◌++◌, length, take, map, filter, Some, refl, ap, ◌∙◌, arith, length-append, length-take}
use Rattle.std.{proofs.lemmas.Bool.{eq-eqb, ne_eqb, cases_eq, lt-ltb}, specs.Prelude.{codes, decimal, nat_lt, if◌then◌else◌}}
use Rattle.std.specs.{Fmt.{digits, digits_onto, digit_glyph}, List.{join_with_byte}, Int.{bit_at}}
use Rattle.attr_bytes.specs.declared.raw.RawAttr.{RawAttr}
use Rattle.script_spec.specs.{Forms.{hexadecimal, flag_name, flags_text, word_if}, Printing.{some_of}}
use Rattle.perf_io.specs.{Outside.{Rose}, Wrote.{WroteFront}}
use Rattle.perf_top.specs.{Attributes.{words_of_attr, line_of_words}, LineRoom.{LineState}}

length_digits : (base k n : ℕ) (written : List ℕ) → length (digits_onto k base false n written) ≤ k + length written
length_digits base zero n written = omega arith
length_digits base (suc k) n written = elim (cases_eq (n / base) 0) [
  | inl none ↦ let e : eqb (n / base) 0 ≡ true = eq-eqb _ _ none in rw e (omega arith)
  | inr some ↦
      let e : eqb (n / base) 0 ≡ false = ne_eqb _ _ some in
      let rest : length (digits_onto k base false (n / base) (digit_glyph false (n % base) ∷ written)) ≤ k + suc (length written) =
      length_digits base k (n / base) (digit_glyph false (n % base) ∷ written) in
      rw e (omega (arith, rest))
]

length_hexadecimal : (n : ℕ) → length (hexadecimal n) ≤ 64
unfolding digits
length_hexadecimal n = omega (arith, length_digits 16 64 n [])

length_decimal : (n : ℕ) → length (decimal n) ≤ 64
unfolding digits
length_decimal n = omega (arith, length_digits 10 64 n [])

-- the bytes of words with one more for each
abbrev width : List (List ℕ) → ℕ
width [] = 0
width (w ∷ ws) = length w + 1 + width ws

length_join : (c : ℕ) (ws : List (List ℕ)) → length (join_with_byte c ws) ≤ width ws
length_join c [] = omega arith
length_join c (w ∷ []) = omega arith
length_join c (w ∷ v ∷ ws) = omega (arith, length_join c (v ∷ ws), length-append w (c ∷ join_with_byte c (v ∷ ws)))

width_cons : (f : ℕ → List ℕ) (p : ℕ → Bool) (n : ℕ) (ns : List ℕ) (b : Bool) → p n ≡ b → width (map f (filter p ns)) ≤ width (map f ns) → width (map f (filter p (n ∷ ns))) ≤ width (map f (n ∷ ns))
width_cons f p n ns true e h = rw e (omega (arith, h))
width_cons f p n ns false e h = rw e (omega (arith, h))

width_filter : (f : ℕ → List ℕ) (p : ℕ → Bool) (ns : List ℕ) → width (map f (filter p ns)) ≤ width (map f ns)
width_filter f p [] = omega arith
width_filter f p (n ∷ ns) = width_cons f p n ns (p n) refl (width_filter f p ns)

length_flags : (flags : ℕ) → length (flags_text flags) ≤ 76
length_flags flags =
    let ns : List ℕ = 0 ∷ 1 ∷ 2 ∷ 3 ∷ 4 ∷ 5 ∷ 6 ∷ [] in
    let set : ℕ → Bool = λ n. eqb (bit_at flags n) 1 in
    omega (arith, length_join 44 (map flag_name (filter set ns)), width_filter flag_name set ns)

width_flags : (flags : ℕ) → width (word_if (some_of flags) (λ n. codes "flags=" ++ flags_text n)) ≤ 83
width_flags flags =
    let one : width ((codes "flags=" ++ flags_text flags) ∷ []) ≤ 83 = omega (arith, length_flags flags, length-append (codes "flags=") (flags_text flags)) in
    elim (cases_eq flags 0) [
      | inl none ↦ let e : eqb flags 0 ≡ true = eq-eqb _ _ none in rw e (omega arith)
      | inr some ↦ let e : eqb flags 0 ≡ false = ne_eqb _ _ some in rw e one
    ]

length_line : (words : List (List ℕ)) → length (line_of_words words) ≤ width words + 1
length_line words = omega (arith, length_join 32 words, length-append (join_with_byte 32 words) (10 ∷ []))

pub attr_fits : (raw : RawAttr) → length (line_of_words (words_of_attr raw)) < 512
attr_fits raw =
    omega (
      arith,
      length_line (words_of_attr raw),
      width_flags raw.flags.0,
      length-append (codes "type=") (decimal raw.class),
      length_decimal raw.class,
      length-append (codes "config=") (decimal raw.config),
      length_decimal raw.config,
      length-append (codes "period=") (decimal raw.period),
      length_decimal raw.period,
      length-append (codes "sample=") (hexadecimal raw.sample),
      length_hexadecimal raw.sample,
      length-append (codes "format=") (hexadecimal raw.format),
      length_hexadecimal raw.format,
    )

-- that a line of 512 bytes is full is its one fault
abbrev full_count : ℕ → ℕ
full_count held = if nat_lt held 512 then 0 else 1

rose_to_full : (held : ℕ) → held < 512 → Rose (Some 1) 0 (full_count held) → ⊥
rose_to_full held l rose =
    let e : ltb held 512 ≡ true = lt-ltb _ _ l in
    let none : Rose (Some 1) 0 0 = rw e at rose in
    elim none [
      | inl more ↦ absurd (omega (arith, more))
      | inr last ↦ absurd cc
    ]

-- a line does not fail at a text that has room in it
pub never_full : (before after : LineState) (text : List ℕ) → before.text ≡ [] → length text < 512
    → WroteFront (record { held = λ (s : LineState). Some s.text; flushed = λ (s : LineState). s.flushed; faults = λ (s : LineState). full_count (length s.text); last_fault = Some 1 }) before after text → ⊥
never_full before after text empty short h =
    let all : after.text ≡ take h.1.0 text = h.1.2 ∙ ap (λ t. t ++ take h.1.0 text) empty in
    let few : length after.text < 512 = omega (arith, ap length all, length-take h.1.0 text, short) in
    rose_to_full (length after.text) few (rw empty at h.0)

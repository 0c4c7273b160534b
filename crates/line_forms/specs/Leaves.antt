-- inner
-- Reading numbers, names and other single words: what each step gives. This project's own profile.
use Rattle.std.specs.Prelude.{ℕ, ◌+◌, ◌-◌, ◌*◌, Bool, true, false, not, ◌==◌, ◌&&◌, ◌||◌, nat_lt, nat_le, List, [], ◌∷◌, length, slice_index, codes, Option, Some, None, if◌then◌else◌}
use Rattle.std.specs.{List.{list_all}, Str.{bytes_eq}}
use Rattle.perf_base.specs.Flags.{flag_table}
use Rattle.script_spec.specs.Lines.{pieces}
use Rattle.line_forms.specs.Words.{◌>>=◌, strip, next_of, end_of}

-- the value of a digit, 16 where it is none
abbrev pub digit_of : ℕ → ℕ
digit_of b =
    if nat_le 48 b && nat_le b 57 then b - 48 else
    if nat_le 97 b && nat_le b 102 then b - 87 else 16

-- the value of digits behind those of a number
abbrev pub value_after : ℕ → ℕ → List ℕ → ℕ
value_after radix n [] = n
value_after radix n (c ∷ cs) = value_after radix (n * radix + digit_of c) cs

-- no more bytes than most, without a zero too many in front
abbrev pub has_length : ℕ → List ℕ → Bool
has_length most text = nat_lt 0 (length text) && (nat_le (length text) most && (not (slice_index text 0 == 48) || length text == 1))

-- each byte is a digit of a radix
abbrev pub are_digits : ℕ → List ℕ → Bool
are_digits radix text = list_all (λ b. nat_lt (digit_of b) radix) text

-- the value, where each byte is a digit
abbrev pub digits_value : ℕ → List ℕ → Option ℕ
digits_value radix text = if are_digits radix text then Some (value_after radix 0 text) else None

-- digits of a radix, no more of them than most, without a zero too many in front
abbrev pub is_number : ℕ → ℕ → List ℕ → Bool
is_number radix most text =
    nat_lt 0 (length text)
    && (nat_le (length text) most
    && ((not (slice_index text 0 == 48) || length text == 1)
    && list_all (λ b. nat_lt (digit_of b) radix) text))

unfoldable pub number : ℕ → ℕ → List ℕ → Option ℕ
number radix most text = if is_number radix most text then Some (value_after radix 0 text) else None

-- small letters, digits and dashes, the first a letter, at most 31
abbrev pub is_letter : ℕ → Bool
is_letter b = nat_le 97 b && nat_le b 122

abbrev pub is_name_byte : ℕ → Bool
is_name_byte b = is_letter b || ((nat_le 48 b && nat_le b 57) || b == 45)

abbrev pub is_name : List ℕ → Bool
is_name [] = false
is_name (b ∷ bs) = is_letter b && (nat_le (length bs) 30 && list_all is_name_byte bs)

unfoldable pub name : List ℕ → Option (List ℕ)
name text = if is_name text then Some text else None

-- a number, or a name, behind a literal in the next word
unfoldable pub number_at : List ℕ → ℕ → ℕ → List (List ℕ) → Option (ℕ × List (List ℕ))
number_at key radix most words = do
  word ← next_of words
  text ← strip key word.0
  n ← number radix most text
  Some (n, word.1)

abbrev pub decimal_at : List ℕ → List (List ℕ) → Option (ℕ × List (List ℕ))
decimal_at key words = number_at key 10 20 words

abbrev pub hexadecimal_at : List ℕ → List (List ℕ) → Option (ℕ × List (List ℕ))
hexadecimal_at key words = number_at key 16 16 words

unfoldable pub name_at : List ℕ → List (List ℕ) → Option (List ℕ × List (List ℕ))
name_at key words = do
  word ← next_of words
  text ← strip key word.0
  n ← name text
  Some (n, word.1)

-- another word in place of a decimal number
abbrev pub other_or : Bool → Option ℕ → Option (Option ℕ)
other_or true n = Some None
other_or false n = n >>= λ m. Some (Some m)

unfoldable pub decimal_or : List ℕ → List ℕ → List (List ℕ) → Option (Option ℕ × List (List ℕ))
decimal_or key other words = do
  word ← next_of words
  text ← strip key word.0
  n ← other_or (bytes_eq text other) (number 10 20 text)
  Some (n, word.1)

-- a number that may be missing
unfoldable pub number_if : List ℕ → ℕ → ℕ → List (List ℕ) → Option ℕ × List (List ℕ)
number_if key radix most words = elim (number_at key radix most words) [ Some x ↦ (Some x.0, x.1) | None ↦ (None, words) ]

-- a word that may be missing
unfoldable pub word_if : List ℕ → List (List ℕ) → Bool × List (List ℕ)
word_if word [] = (false, [])
word_if word (w ∷ ws) = if bytes_eq w word then (true, ws) else (false, w ∷ ws)

abbrev pub bit : Bool → ℕ
bit true = 1
bit false = 0

-- a flag's bit where its word is next, else 0, and the words behind it
abbrev pub flag_if : List ℕ → ℕ → List (List ℕ) → ℕ × List (List ℕ)
flag_if word flag words = (flag * bit (word_if word words).0, (word_if word words).1)

-- the flags of a table, each by its word, which may be missing, and in their order: the bits of those that are there
unfoldable pub flags_in : List (List ℕ × ℕ) → List (List ℕ) → ℕ × List (List ℕ)
flags_in [] words = (0, words)
flags_in (row ∷ rows) words =
    let flag = flag_if row.0 row.1 words in
    let others = flags_in rows flag.1 in
    (flag.0 + others.0, others.1)

-- flags in their order, parted by commas
unfoldable pub flags : List ℕ → Option ℕ
flags text =
    let all = flags_in flag_table (pieces 44 text) in
    end_of all.1 >>= λ _. Some all.0

unfoldable pub flags_at : List (List ℕ) → Option (ℕ × List (List ℕ))
flags_at words = do
  word ← next_of words
  text ← strip (codes "flags=") word.0
  n ← flags text
  Some (n, word.1)

unfoldable pub flags_if : List (List ℕ) → Option ℕ × List (List ℕ)
flags_if words = elim (flags_at words) [ Some x ↦ (Some x.0, x.1) | None ↦ (None, words) ]

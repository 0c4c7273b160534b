-- inner
-- What words that hold lists give: occurrences, and bytes. This project's own profile.
use Rattle.std.specs.Prelude.{ℕ, ◌+◌, ◌*◌, ◌%◌, Bool, ◌==◌, ◌&&◌, true, nat_lt, nat_le, ◌≡◌, List, [], ◌∷◌, ◌++◌, length, Option, Some, None, unwrap_or, if◌then◌else◌}
use Rattle.std.specs.List.{list_all}
use Rattle.script_spec.specs.Forms.{Hit}
use Rattle.line_forms.specs.{Words.{◌>>=◌, cut, next_of}, Leaves.{digit_of, number, is_name_byte, name}}

-- what each word gives, where each gives something
unfoldable pub each_word : {A : Type 0} → (List ℕ → Option A) → List (List ℕ) → Option (List A)
each_word f [] = Some []
each_word f (word ∷ words) = f word >>= λ x. each_word f words >>= λ xs. Some (x ∷ xs)

-- what the words give, where each gives something
abbrev pub all_in : {A : Type 0} → (List ℕ → Option A) → List (List ℕ) → List A
all_in f words = unwrap_or (each_word f words) []

unfoldable pub hit_in : List ℕ → Option Hit
hit_in word = do
  text ← (cut 61 word).1
  n ← name (cut 61 word).0
  times ← number 10 20 text
  Some (record { name = n; times = times })

-- the first occurrence and the words behind it, where the first word says one
abbrev pub next_hit : List (List ℕ) → Option (Hit × List (List ℕ))
next_hit words = next_of words >>= λ word. hit_in word.0 >>= λ hit. Some (hit, word.1)

-- a text that begins with a name and an equals sign, and what stands behind them
pub record IsNamed (text front behind : List ℕ) : Type 0 where
  pub parts : text ≡ front ++ 61 ∷ behind
  pub bytes : list_all is_name_byte front ≡ true
  pub named : name front ≡ Some front

-- the occurrence that the first word of a text says, and what stands behind that word
pub record IsFront (text : List ℕ) (hit : Hit) (rest : Option (List ℕ)) : Type 0 where
  pub says : hit_in (cut 32 text).0 ≡ Some hit
  pub leaves : rest ≡ (cut 32 text).1

-- bytes, each as two hexadecimal digits
abbrev pub is_bytes : List ℕ → Bool
is_bytes text = nat_lt 0 (length text) && (nat_le (length text) 8192 && (length text % 2 == 0 && list_all (λ b. nat_lt (digit_of b) 16) text))

abbrev pub pair_of : ℕ → ℕ → ℕ
pair_of high low = (digit_of high * 16 % 256 + digit_of low) % 256

unfoldable pub pairs_in : List ℕ → List ℕ
pairs_in [] = []
pairs_in (high ∷ []) = []
pairs_in (high ∷ low ∷ rest) = pair_of high low ∷ pairs_in rest

unfoldable pub bytes_in : List ℕ → Option (List ℕ)
bytes_in text = if is_bytes text then Some (pairs_in text) else None

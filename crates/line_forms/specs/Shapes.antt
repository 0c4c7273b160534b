-- inner
-- What the words behind the first give, in the shapes that several forms share. This project's own profile.
use Rattle.std.specs.Prelude.{ℕ, Bool, List, [], codes, Option, Some}
use Rattle.line_forms.specs.{Words.{◌>>=◌, end_of}, Leaves.{decimal_at, word_if}}

-- a value is given where no word is left
abbrev pub at_end : {A : Type 0} → List (List ℕ) → A → Option A
at_end words a = end_of words >>= λ _. Some a

-- one number, and two
unfoldable pub one_number : List (List ℕ) → Option ℕ
one_number words = do
  n ← decimal_at [] words
  at_end n.1 n.0

unfoldable pub two_numbers : List (List ℕ) → Option (ℕ × ℕ)
two_numbers words = do
  n ← decimal_at [] words
  m ← decimal_at [] n.1
  at_end m.1 (n.0, m.0)

-- a slot, and whether its group is meant
unfoldable pub slot_and_group : List (List ℕ) → Option (ℕ × Bool)
slot_and_group words = do
  slot ← decimal_at [] words
  at_end (word_if (codes "group") slot.1).1 (slot.0, (word_if (codes "group") slot.1).0)

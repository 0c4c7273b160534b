-- inner
-- A counter, which the tests share: what it is after its calls, and what each of them answers.
use Rattle.std.specs.Prelude.{◌≡◌, ℕ, ◌+◌, ◌*◌, ◌^◌, ◌≤◌, List, [], ◌∷◌, length}

-- `amount` is what a call adds
module _ {C : Type 0} (amount : C → ℕ) where
  -- the counter's value after these calls (this project's own profile)
  abbrev pub value_after : ℕ → List (C × ℕ) → ℕ
  value_after start [] = start
  value_after start (entry ∷ entries) = value_after (start + amount entry.0) entries

  -- each call answers the value after it (this project's own profile)
  abbrev pub AnswersValues : ℕ → List (C × ℕ) → Type 0
  AnswersValues start [] = Unit {0}
  AnswersValues start (entry ∷ entries) = (entry.1 ≡ start + amount entry.0) × AnswersValues (start + amount entry.0) entries

  -- the counter has the value after these calls, none of which added more than 2^32, and their answers are right (this
  -- project's own profile)
  abbrev pub HasCounted : ℕ → ℕ → List (C × ℕ) → Type 0
  HasCounted start value entries = (value ≡ value_after start entries) × (value ≤ 2 ^ 32 * (length entries + 1)) × AnswersValues start entries

-- believed
-- The head of a text: all up to the first line that is `end`. This project's own profile of reading line by line.
use Rattle.std.specs.Prelude.{◌≡◌, ℕ, ◌<◌, ◌≤◌, ◌⊎◌, List, [], ◌∷◌, ◌++◌, length, take, codes, Option}
use Rattle.perf_io.specs.Outside.{Takes, IsAtEnd}

-- Bytes behind which a line begins: there are none, or the last is an LF.
abbrev pub AreLines : List ℕ → Type 0
AreLines bytes = (bytes ≡ []) ⊎ ((front : List ℕ) × (bytes ≡ front ++ 10 ∷ []))

-- The last line is `end`, with its LF.
abbrev pub HasEndLine : List ℕ → Type 0
HasEndLine bytes = (before : List ℕ) × AreLines before × (bytes ≡ before ++ codes "end\n")

-- No line is `end` with an LF behind it.
abbrev pub HasNoEndLine : List ℕ → Type 0
HasNoEndLine text = (n : ℕ) → n ≤ length text → HasEndLine (take n text) → ⊥

-- The last line is `end`, and none before it.
abbrev pub IsHeadText : List ℕ → Type 0
IsHeadText text = HasEndLine text × ((n : ℕ) → n < length text → HasEndLine (take n text) → ⊥)

-- The text was taken, and is a head, or all that there was and has no line `end`. It has at most 4,194,304 bytes.
abbrev pub HasHead : Option (List ℕ) → Option (List ℕ) → List ℕ → Type 0
HasHead before after text = (length text ≤ 4194304) × Takes before after text × (IsHeadText text ⊎ (HasNoEndLine text × IsAtEnd after))

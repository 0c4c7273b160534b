-- believed
-- What a call that takes a line took, by how the line ended. This project's own profile of reading line by line. The LF
-- is the byte 10, and a line has at most 65,536 bytes before it.
use Rattle.std.specs.Prelude.{ℕ, ◌-◌, ◌^◌, ◌<◌, ◌≤◌, ◌⊎◌, List, [], ◌∷◌, ◌++◌, length, Option, Contains}
use Rattle.perf_io.specs.Outside.{Takes, IsAtEnd}
use Rattle.line_input.specs.declared.lines.LineEnd.{LineEnd}
use Rattle.line_input.specs.declared.lines.LineEnd.TheVariants as line_end

-- Bytes of one line: none of them is an LF.
abbrev pub HasNoLF : List ℕ → Type 0
HasNoLF bytes = Contains bytes 10 → ⊥

-- What was taken, from what was ahead before and after, where the line in memory is this text. A line that is cut ends
-- with the source, or has as many bytes as a count of 64 bits can reach.
abbrev pub HasLine : Option (List ℕ) → Option (List ℕ) → List ℕ → LineEnd → Type 0
HasLine before after text line_end.Ended = Takes before after (text ++ 10 ∷ []) × (length text ≤ 65536) × HasNoLF text
HasLine before after text line_end.Long =
    (bytes : List ℕ) × Takes before after (bytes ++ 10 ∷ []) × (65536 < length bytes) × HasNoLF bytes
HasLine before after text line_end.Cut =
    (bytes : List ℕ) × Takes before after bytes × (0 < length bytes) × HasNoLF bytes × (IsAtEnd after ⊎ (2 ^ 64 - 1 ≤ length bytes))
HasLine before after text line_end.Nothing = Takes before after [] × IsAtEnd after

-- A read failed within a line: some bytes of it were taken.
abbrev pub HasPart : Option (List ℕ) → Option (List ℕ) → Type 0
HasPart before after = (bytes : List ℕ) × Takes before after bytes × HasNoLF bytes

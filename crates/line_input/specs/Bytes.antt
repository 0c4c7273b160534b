-- inner
-- What a call that takes a byte took. This project's own profile of reading line by line.
use Rattle.std.specs.Prelude.{◌≡◌, ℕ, List, [], ◌∷◌, Option, None, Some}
use Rattle.perf_io.specs.Outside.{Takes, IsAtEnd}

-- What was taken, from what was ahead before and after, where these bytes wait now. At the end none waits.
abbrev pub HasByte : Option (List ℕ) → Option (List ℕ) → List ℕ → Option ℕ → Type 0
HasByte before after waiting None = Takes before after [] × IsAtEnd after × (waiting ≡ [])
HasByte before after waiting (Some byte) = Takes before after (byte ∷ [])

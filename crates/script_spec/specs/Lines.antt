-- believed
-- How a text is cut into lines, and a line into words. This project's own profile.
use Rattle.std.specs.Prelude.{ℕ, Bool, true, false, ◌==◌, List, [], ◌∷◌}

-- the pieces with a byte more at the front of the first, or with an empty piece before them
abbrev pub put_before : Bool → ℕ → List (List ℕ) → List (List ℕ)
put_before true b pieces = [] ∷ pieces
put_before false b [] = (b ∷ []) ∷ []
put_before false b (piece ∷ pieces) = (b ∷ piece) ∷ pieces

-- what stands between the bytes c, and before the first and behind the last: one piece more than there are
-- bytes c, and none of them has one
unfoldable pub pieces : ℕ → List ℕ → List (List ℕ)
pieces c [] = [] ∷ []
pieces c (b ∷ bytes) = put_before (b == c) b (pieces c bytes)

abbrev pub all_but_last : List (List ℕ) → List (List ℕ)
all_but_last [] = []
all_but_last (x ∷ []) = []
all_but_last (x ∷ y ∷ xs) = x ∷ all_but_last (y ∷ xs)

abbrev pub last_one : List (List ℕ) → List ℕ
last_one [] = []
last_one (x ∷ []) = x
last_one (x ∷ y ∷ xs) = last_one (y ∷ xs)

-- the lines of a text: each is ended by an LF, which is no part of it
abbrev pub lines_of : List ℕ → List (List ℕ)
lines_of text = all_but_last (pieces 10 text)

-- what stands behind the last LF: nothing where each line is ended
abbrev pub rest_of : List ℕ → List ℕ
rest_of text = last_one (pieces 10 text)

-- the words of a line: parted by one space each, so that an empty word stands where two spaces do
abbrev pub words_of : List ℕ → List (List ℕ)
words_of line = pieces 32 line

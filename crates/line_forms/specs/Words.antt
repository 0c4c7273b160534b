-- inner
-- Reading the words of a line from the left: what each step gives. This project's own profile.
use Rattle.std.specs.Prelude.{ℕ, Bool, false, ◌+◌, not, ◌==◌, nat_lt, nat_eq, List, [], ◌∷◌, length, take, drop, Option, Some, None, if◌then◌else◌}
use Rattle.std.specs.List.{starts_with, prefix_len}
use Rattle.script_spec.specs.Lines.{pieces}
use Rattle.line_forms.specs.declared.words.Words.{Words}

infixl 10 ◌>>=◌
abbrev pub ◌>>=◌ : {A B : Type 0} → Option A → (A → Option B) → Option B
(Some x) >>= f = f x
None >>= f = None

-- what stands before the first byte c, and behind it, if there is one
unfoldable pub cut : ℕ → List ℕ → List ℕ × Option (List ℕ)
cut c text =
    let n = prefix_len (λ b. not (b == c)) text in
    if nat_lt n (length text) then (take n text, Some (drop (n + 1) text)) else (text, None)

-- the bytes behind a literal
unfoldable pub strip : List ℕ → List ℕ → Option (List ℕ)
strip literal bytes = if starts_with nat_eq bytes literal then Some (drop (length literal) bytes) else None

-- the words that are left
abbrev pub left : Words → List (List ℕ)
left w = elim w.rest [ None ↦ [] | Some text ↦ pieces w.by text.now ]

-- the pieces of what stands behind a cut
abbrev pub pieces_behind : ℕ → Option (List ℕ) → List (List ℕ)
pieces_behind c None = []
pieces_behind c (Some rest) = pieces c rest

abbrev pub next_of : List (List ℕ) → Option (List ℕ × List (List ℕ))
next_of [] = None
next_of (word ∷ words) = Some (word, words)

abbrev pub end_of : List (List ℕ) → Option (Unit {0})
end_of [] = Some tt
end_of (word ∷ words) = None

-- whether the text that is left begins with a literal; where there is none it does not
abbrev pub begins : Option (List ℕ) → List ℕ → Bool
begins None literal = false
begins (Some text) literal = starts_with nat_eq text literal

-- the bytes behind a literal in the first word
abbrev pub behind : List ℕ → List (List ℕ) → Option (List ℕ)
behind literal words = next_of words >>= λ word. strip literal word.0

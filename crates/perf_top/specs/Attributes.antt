-- believed
-- What is written of bytes of a struct perf_event_attr (perf_event_open(2)). The line is this project's own profile.
use Rattle.std.specs.{Prelude.{◌≡◌, ◌⊎◌, ℕ, List, [], ◌∷◌, ◌++◌, Some, codes, decimal}, List.{join_with_byte}}
use Rattle.attr_bytes.specs.{declared.{raw.RawAttr.{RawAttr}, fault.AttrFault.{AttrFault}}, Faults.{fault_of, word_of}}
use Rattle.attr_bytes.specs.Standing as standing
use Rattle.script_spec.specs.{Forms.{hexadecimal, flags_text, word_if}, Printing.{some_of}}

-- the words of an attribute: the bits of its samples and of its reads in hexadecimal, and its flags where it has some
abbrev pub words_of_attr : RawAttr → List (List ℕ)
words_of_attr raw =
    codes "attr" ∷ (codes "type=" ++ decimal raw.class) ∷ (codes "config=" ++ decimal raw.config) ∷ (codes "period=" ++ decimal raw.period)
    ∷ (codes "sample=" ++ hexadecimal raw.sample) ∷ (codes "format=" ++ hexadecimal raw.format)
    ∷ word_if (some_of raw.flags.0) (λ n. codes "flags=" ++ flags_text n)

abbrev pub words_of_fault : AttrFault → List (List ℕ)
words_of_fault fault = codes "attr" ∷ word_of fault ∷ []

-- words as a line: a space between each two, and one LF at the end
abbrev pub line_of_words : List (List ℕ) → List ℕ
line_of_words words = join_with_byte 32 words ++ 10 ∷ []

-- This is the line of the bytes: that of the attribute that they stand for, or of their first fault.
abbrev pub IsLineOf : List ℕ → List ℕ → Type 0
IsLineOf bytes out =
    ((raw : RawAttr) × standing.StandsFor bytes raw × (out ≡ line_of_words (words_of_attr raw)))
    ⊎ ((fault : AttrFault) × (fault_of bytes ≡ Some fault) × (out ≡ line_of_words (words_of_fault fault)))

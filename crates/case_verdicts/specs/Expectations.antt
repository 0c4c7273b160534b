-- inner
-- What each expectation of a worked case allows. This project's own profile.
use Rattle.std.specs.Prelude.{◌≡◌, ◌≢◌, ◌==◌, ◌⊎◌, ◌||◌, ℕ, Bool, true, false, nat_eq, List, [], ◌++◌, codes, string_bytes}
use Rattle.std.specs.List.{starts_with, ends_with, before_first, after_first}
use Rattle.case_verdicts.specs.declared.case.{Case.{Case}, Expected.{Expected}}
use Rattle.case_verdicts.specs.declared.case.Expected.TheVariants as expected

-- the number, the output and the note of a call, by the report that a case names
abbrev pub Allows : Expected → List ℕ → ℕ → List ℕ → List ℕ → Type 0
Allows expected.Done report number out note = (number ≡ 0) × (out ≡ report) × (note ≡ [])
Allows (expected.Refused wanted) report number out note = (number ≡ 1) × (out ≡ []) × (note ≡ string_bytes wanted)
Allows expected.Words report number out note = (number ≡ 0) × (out ≡ report) × (note ≡ [])
Allows expected.Usage report number out note = (number ≡ 5) × (out ≡ []) × (note ≡ codes "perf_run: usage: run, replay, make N, make N script\n")
Allows expected.Table report number out note = (number ≡ 0) × (out ≡ report) × (note ≡ [])
Allows expected.Unknown report number out note = ⊥

-- the number that an expectation allows, in words
abbrev pub number_allowed : Expected → List ℕ
number_allowed expected.Done = codes "0"
number_allowed (expected.Refused wanted) = codes "1"
number_allowed expected.Words = codes "0"
number_allowed expected.Usage = codes "5"
number_allowed expected.Table = codes "0"
number_allowed expected.Unknown = codes "unknown"

-- the kinds that are stated without a note, and those with one
abbrev pub IsKnown : List ℕ → List ℕ → Type 0
IsKnown kind note = ((note ≡ []) × ((kind ≡ codes "done") ⊎ (kind ≡ codes "words") ⊎ (kind ≡ codes "usage") ⊎ (kind ≡ codes "table"))) ⊎ ((note ≢ []) × (kind ≡ codes "refused"))

-- the kind and the note of a line of the list that states an expectation; a wanted note has its LF
abbrev pub IsStated : List ℕ → List ℕ → Expected → Type 0
IsStated kind note expected.Done = (kind ≡ codes "done") × (note ≡ [])
IsStated kind note (expected.Refused wanted) = (kind ≡ codes "refused") × (string_bytes wanted ≡ note ++ codes "\n")
IsStated kind note expected.Words = (kind ≡ codes "words") × (note ≡ [])
IsStated kind note expected.Usage = (kind ≡ codes "usage") × (note ≡ [])
IsStated kind note expected.Table = (kind ≡ codes "table") × (note ≡ [])
IsStated kind note expected.Unknown = IsKnown kind note → ⊥

-- whether a note says that a script's order is at fault: that it is not complete, or that an act of it can't be
abbrev pub is_of_order : List ℕ → Bool
is_of_order note = ends_with nat_eq note (codes ": ORDER\n") || starts_with nat_eq note (codes "perf_run: act ")

-- Whether there is a text that is replayed and stands for a script. One that is refused does so only where its order is
-- at fault.
abbrev pub has_script : Expected → Bool
has_script expected.Done = true
has_script (expected.Refused wanted) = is_of_order (string_bytes wanted)
has_script expected.Words = false
has_script expected.Usage = false
has_script expected.Table = false
has_script expected.Unknown = false

-- what is said of a text that is printed too
abbrev pub words_if_printed : Bool → List ℕ
words_if_printed true = codes ", printed too"
words_if_printed false = []

-- a line's first word, and what stands behind the space that ends it
abbrev pub first_word : List ℕ → List ℕ
first_word line = before_first (λ b. b == 32) line

abbrev pub behind_word : List ℕ → List ℕ
behind_word line = after_first (λ b. b == 32) line

-- the case of a line of the list: its kind, its name and its note
abbrev pub IsCaseOf : List ℕ → Case → Type 0
IsCaseOf line case = (string_bytes case.name ≡ first_word (behind_word line)) × IsStated (first_word line) (behind_word (behind_word line)) case.expected

-- The kinds of the script of N rounds can be declared, one after the other.
use Rattle.std.proofs.Common.{◌≡◌, ◌≢◌, ℕ, ◌<◌, ◌≤◌, false, List, [], ◌∷◌, length, get_or, All, ap, inl, inr, arith}
use Rattle.std.proofs.lemmas.{Bool.{cases_Bool, cond-false}, List.{Elements.{All-from_recursion}, Quantifiers.{all_pairs_push}}}
use Rattle.std.{proofs.lemmas.Slice.Eq.{bytes_eq-Decides}, specs.{Prelude.{AllPairs, codes, take}, List.{AllByRecursion}, Str.{bytes_eq}}}
use Rattle.perf_base.specs.{declared.lines.KindLine.{KindLine}, Scripts.{IsKindLine, IsName, IsNameByte, IsFreeName}}
use Rattle.work_maker.specs.Rounds.{made_pmus, made_kinds}

abbrev AreLetters : List ℕ → Type 0
AreLetters [] = 0 ≤ 0
AreLetters (b ∷ bs) = (97 ≤ b) × (b ≤ 122) × AreLetters bs

letters : (bs : List ℕ) → AreLetters bs → AllByRecursion IsNameByte bs
letters [] h = tt
letters (b ∷ bs) h = (inl (h.0, h.1), letters bs h.2)

named : (b : ℕ) (bs : List ℕ) → AreLetters (b ∷ bs) → IsName (b ∷ bs)
named b bs h = ((h.0, h.1), All-from_recursion IsNameByte bs (letters bs h.2))

-- a text of another length is another text
other_text : (x y : List ℕ) → (length x ≡ length y → ⊥) → bytes_eq x y ≡ false
other_text x y h = elim (cases_Bool (bytes_eq x y)) [ inl t ↦ absurd (h (ap length ((bytes_eq-Decides x y).0 t))) | inr f ↦ f ]

-- a name of 6 to 13 letters, but for 10, is free
free : (name : List ℕ) → 5 < length name → (length name ≡ 10 → ⊥) → length name < 14 → IsFreeName name
free name low other high = grind (arith, length, cond-false, other_text)

pub cycles_fit : IsKindLine made_pmus (record { name = codes "cycles"; pmu = 0; mask = 7 })
cycles_fit = record { name = named 99 (codes "ycles") (omega arith); length = omega arith; free = free (codes "cycles") (omega arith) (λ e. omega arith) (omega arith); mask = (omega arith, omega arith) }

pub instructions_fit : IsKindLine made_pmus (record { name = codes "instructions"; pmu = 0; mask = 7 })
instructions_fit = record { name = named 105 (codes "nstructions") (omega arith); length = omega arith; free = free (codes "instructions") (omega arith) (λ e. omega arith) (omega arith); mask = (omega arith, omega arith) }

pub branches_fit : IsKindLine made_pmus (record { name = codes "branches"; pmu = 0; mask = 3 })
branches_fit = record { name = named 98 (codes "ranches") (omega arith); length = omega arith; free = free (codes "branches") (omega arith) (λ e. omega arith) (omega arith); mask = (omega arith, omega arith) }

pub misses_fit : IsKindLine made_pmus (record { name = codes "misses"; pmu = 0; mask = 4 })
misses_fit = record { name = named 109 (codes "isses") (omega arith); length = omega arith; free = free (codes "misses") (omega arith) (λ e. omega arith) (omega arith); mask = (omega arith, omega arith) }

pub kinds_fit : All (IsKindLine made_pmus) made_kinds
kinds_fit = All-from_recursion (IsKindLine made_pmus) made_kinds (cycles_fit, (instructions_fit, (branches_fit, (misses_fit, tt))))

-- each name is another than those before
pub instructions_new : All (λ k. k.name ≢ codes "instructions") (take 1 made_kinds)
instructions_new = All-from_recursion (λ (k : KindLine). k.name ≢ codes "instructions") (take 1 made_kinds) ((λ e. absurd (omega (arith, ap length e))), tt)

pub branches_new : All (λ k. k.name ≢ codes "branches") (take 2 made_kinds)
branches_new = All-from_recursion (λ (k : KindLine). k.name ≢ codes "branches") (take 2 made_kinds) ((λ e. absurd (omega (arith, ap length e))), ((λ e. absurd (omega (arith, ap length e))), tt))

pub misses_new : All (λ k. k.name ≢ codes "misses") (take 3 made_kinds)
misses_new = All-from_recursion (λ (k : KindLine). k.name ≢ codes "misses") (take 3 made_kinds)
    ((λ e. absurd (omega (arith, ap (λ xs. get_or xs 0 0) e))), ((λ e. absurd (omega (arith, ap length e))), ((λ e. absurd (omega (arith, ap length e))), tt)))

abbrev AreNamedApart : KindLine → KindLine → Type 0
AreNamedApart j k = j.name ≢ k.name

one_kind : AllPairs AreNamedApart (take 1 made_kinds)
one_kind i j d l m = absurd (omega arith)

pub kinds_once : AllPairs AreNamedApart made_kinds
kinds_once =
    let two : AllPairs AreNamedApart (take 2 made_kinds) = all_pairs_push AreNamedApart (take 1 made_kinds) (record { name = codes "instructions"; pmu = 0; mask = 7 }) one_kind instructions_new in
    let three : AllPairs AreNamedApart (take 3 made_kinds) = all_pairs_push AreNamedApart (take 2 made_kinds) (record { name = codes "branches"; pmu = 0; mask = 3 }) two branches_new in
    all_pairs_push AreNamedApart (take 3 made_kinds) (record { name = codes "misses"; pmu = 0; mask = 4 }) three misses_new

-- Beginnings of lists, whole lists, and stops.
use Rattle.std.proofs.Common.{◌≡◌, ℕ, zero, suc, All, ◌+◌, ◌-◌, ◌*◌, ◌/◌, ◌%◌, ◌<◌, ◌≤◌, List, [], ◌∷◌, ◌++◌, length, take, slice_index, refl, sym, ap, ◌∙◌, subst, append_assoc, append-nil, length-append, length-take-le, arith}
use Rattle.std.proofs.lemmas.List.{take-append-le, Elements.{All-append, All-nil}, Folds.{concat-append}}
use Rattle.std.{proofs.Math.Seq.{take-append_seam, take-append-add, get_or-append_seam}, specs.List.{concat}}
use mathlib.Core.List.{IsPrefix}
use Rattle.ring_spec.specs.Whole.{size_field, IsBlock, IsWhole}
use Rattle.ring_words.specs.Ends.{IsStop, LeadsTo}

pub take-prefix : (xs ys : List ℕ) → IsPrefix xs ys → take (length xs) ys ≡ xs
take-prefix xs ys p = ap (take (length xs)) (sym p.1) ∙ take-append_seam xs p.0

next_there : (xs rest ys : List ℕ) → xs ++ rest ≡ ys → length xs < length ys → IsPrefix (xs ++ slice_index ys (length xs) ∷ []) ys
next_there xs [] ys e h = absurd (omega (arith, ap length e, ap length (append-nil xs)))
next_there xs (r ∷ rest) ys e h =
    let here : slice_index ys (length xs) ≡ r = ap (λ (l : List ℕ). slice_index l (length xs)) (sym e) ∙ get_or-append_seam xs r rest 0 in
    (rest, append_assoc xs (slice_index ys (length xs) ∷ []) rest ∙ ap (λ (n : ℕ). xs ++ n ∷ rest) here ∙ e)

pub prefix_next : (xs ys : List ℕ) → IsPrefix xs ys → length xs < length ys → IsPrefix (xs ++ slice_index ys (length xs) ∷ []) ys
prefix_next xs ys p h = next_there xs p.0 ys p.1 h

pub whole_nothing : IsWhole []
whole_nothing = ([], All-nil IsBlock, refl)

pub whole_both : (xs ys : List ℕ) → IsWhole xs → IsWhole ys → IsWhole (xs ++ ys)
whole_both xs ys a b = (a.0 ++ b.0, All-append IsBlock a.0 b.0 a.1 b.1, concat-append a.0 b.0 ∙ ap (λ (l : List ℕ). l ++ concat b.0) a.2 ∙ ap (λ (l : List ℕ). xs ++ l) b.2)

all_one : (block : List ℕ) → IsBlock block → All IsBlock (block ∷ [])
all_one block is zero other h = is
all_one block is (suc k) other h = absurd (omega arith)

-- a block is whole
pub whole_one : (block : List ℕ) → IsBlock block → IsWhole block
whole_one block is = (block ∷ [], all_one block is, append-nil block)

-- a whole list and a block of two words, one after the other
pub whole_pair : (xs : List ℕ) (first second : ℕ) → size_field first ≡ 16 → IsWhole xs → IsWhole (xs ++ first ∷ [] ++ second ∷ [])
whole_pair xs first second size whole =
    subst IsWhole (sym (append_assoc xs (first ∷ []) (second ∷ []))) (whole_both xs (first ∷ second ∷ []) whole (whole_one (first ∷ second ∷ []) size))

-- a whole beginning is one of a longer list
pub whole_more : (xs ys : List ℕ) (n : ℕ) → n ≤ length xs → IsWhole (take n xs) → IsWhole (take n (xs ++ ys))
whole_more xs ys n h w = subst IsWhole (sym (take-append-le n xs ys h)) w

pub stop_more : (xs ys : List ℕ) (place : ℕ) → IsStop xs place → IsStop (xs ++ ys) place
stop_more xs ys place s = grind (arith, length-append, whole_more)

pub stop_at_start : IsStop [] 0
stop_at_start = record { of_words = refl; within = omega arith; whole = whole_nothing }

-- a beginning of a list leads to each place of it that ends a whole one
pub leads_by : (xs ys : List ℕ) (place : ℕ) → IsPrefix xs ys → place % 8 ≡ 0 → 8 * length xs ≤ place → place ≤ 8 * length ys → IsWhole (take (place / 8) ys) → LeadsTo xs place
leads_by xs ys place p even above below w =
    let n : ℕ = place / 8 in
    let m : ℕ = n - length xs in
    let within : n ≤ length ys = omega arith in
    let counts : length xs + m ≡ n = omega arith in
    let same : xs ++ take m p.0 ≡ take n ys = sym (take-append-add xs p.0 m) ∙ ap (λ (k : ℕ). take k (xs ++ p.0)) counts ∙ ap (take n) p.1 in
    let long : length (take n ys) ≡ n = length-take-le n ys within in record {
      others = take m p.0;
      whole = subst IsWhole (sym same) w;
      ends = ap (λ (l : List ℕ). 8 * length l) same ∙ ap (λ (k : ℕ). 8 * k) long ∙ omega arith;
    }

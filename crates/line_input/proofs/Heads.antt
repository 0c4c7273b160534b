-- A head, byte by byte.
use Rattle.std.proofs.Common.{◌≡◌, ◌⊎◌, ℕ, ◌+◌, ◌<◌, ◌≤◌, inl, inr, List, [], ◌∷◌, ◌++◌, length, take, codes, Option, Some, None, arith, sym, ap, subst, ◌∙◌, append_assoc, length-append}
use Rattle.std.specs.Prelude.{IfSome}
use Rattle.std.proofs.{lemmas.{Bool.{cases_lt}, List.{length_push, same_from_push, take_all, take_at, take-append-le}}, Math.Seq.{take-nil}}
use Rattle.perf_io.specs.Outside.{Takes}
use Rattle.line_input.specs.Heads.{HasEndLine, HasNoEndLine, IsHeadText, HasHead}
use Rattle.line_input.proofs.Taking.{Takes-then}

-- a line `end` is followed by its LF
pub end_line-lf : (text : List ℕ) (b : ℕ) → HasEndLine (text ++ b ∷ []) → b ≡ 10
end_line-lf text b (before, lines, whole) = (same_from_push text (before ++ codes "end") b 10 (whole ∙ sym (append_assoc before (codes "end") (10 ∷ [])))).1

-- nothing was read
pub no_end_line-none : HasNoEndLine []
no_end_line-none n few (before, lines, whole) =
    let long : length (before ++ codes "end\n") ≡ length before + 4 = length-append before (codes "end\n") in
    let short : length {A = ℕ} (take n []) ≡ 0 = ap length (take-nil n) in
    omega (arith, long, short, ap length whole)

-- a byte more, behind which no line `end` stands
pub no_end_line-more : (text : List ℕ) (b : ℕ) → HasNoEndLine text → (HasEndLine (text ++ b ∷ []) → ⊥) → HasNoEndLine (text ++ b ∷ [])
no_end_line-more text b none here n few ends = more (cases_lt (length text) n) where
  more : (length text < n) ⊎ (n ≤ length text) → ⊥
  more (inl all) = here (subst HasEndLine (take_all n (text ++ b ∷ []) (omega (arith, all, length_push text b))) ends)
  more (inr front) = none n front (subst HasEndLine (take-append-le n text (b ∷ []) front) ends)

-- a byte more, behind which one stands
pub head_text-here : (text : List ℕ) (b : ℕ) → HasNoEndLine text → HasEndLine (text ++ b ∷ []) → IsHeadText (text ++ b ∷ [])
head_text-here text b none here =
    (here, λ n few ends. let front : n ≤ length text = omega (arith, few, length_push text b) in none n front (subst HasEndLine (take-append-le n text (b ∷ []) front) ends))

-- the same where the text is already longer
pub no_end_line-longer : (text longer : List ℕ) (b : ℕ) → longer ≡ text ++ b ∷ [] → HasNoEndLine text → (HasEndLine longer → ⊥) → HasNoEndLine longer
no_end_line-longer text longer b is none here = subst HasNoEndLine (sym is) (no_end_line-more text b none (λ ends. here (subst HasEndLine (sym is) ends)))

pub head-here : (before now then : Option (List ℕ)) (text longer : List ℕ) (b : ℕ) → longer ≡ text ++ b ∷ [] → Takes before now text → Takes now then (b ∷ [])
    → HasNoEndLine text → HasEndLine longer → length longer ≤ 4194304 → HasHead before then longer
head-here before now then text longer b is taken more none here few =
    (few, subst (Takes before then) (sym is) (Takes-then before now then text (b ∷ []) taken more), inl (subst IsHeadText (sym is) (head_text-here text b none (subst HasEndLine is here))))

-- more than a head may have was taken
pub head-long : (before then : Option (List ℕ)) (text : List ℕ) (b most : ℕ) → Takes before then (text ++ b ∷ []) → HasNoEndLine text → length text ≡ most
    → IfSome before (λ bytes. (most < length bytes) × HasNoEndLine (take most bytes))
head-long None then text b most taken none full = tt
head-long (Some bytes) None text b most taken none full = absurd taken
head-long (Some bytes) (Some rest) text b most taken none full =
    let whole : bytes ≡ text ++ (b ∷ [] ++ rest) = taken ∙ append_assoc text (b ∷ []) rest in
    let front : take most bytes ≡ text = ap (take most) whole ∙ take_at text (b ∷ [] ++ rest) most full in
    (omega (arith, full, ap length whole, length-append text (b ∷ rest)), subst HasNoEndLine (sym front) none)

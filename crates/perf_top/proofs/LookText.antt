-- The texts of looks, piece by piece.
use Rattle.std.{specs.Prelude.{◌≡◌, ℕ, List, ◌∷◌, ◌++◌, codes, decimal}, proofs.Common.{ap, sym, ◌∙◌, append_assoc, append-nil}}
use Rattle.user_page.specs.declared.look.Look.{Look}
use Rattle.report_spec.specs.Published.{look_text}

-- a text behind another, whose end stands apart
pub behind : (a b c : List ℕ) → a ++ (b ++ c) ≡ a ++ b ++ c
behind a b c = sym (append_assoc a b c)

-- three numbers with a space before each
pub sums-are : (look : Look) → codes " " ++ decimal look.count ++ codes " " ++ decimal look.enabled ++ codes " " ++ decimal look.running ≡ look_text look
sums-are look =
    let count : List ℕ = decimal look.count in
    let enabled : List ℕ = decimal look.enabled in
    let running : List ℕ = decimal look.running in
    let space : List ℕ = codes " " in
    let parts : count ++ space ++ enabled ++ space ++ running ≡ count ++ (space ++ (enabled ++ (space ++ running))) =
    append_assoc (count ++ space ++ enabled) space running
    ∙ (append_assoc (count ++ space) enabled (space ++ running) ∙ append_assoc count space (enabled ++ (space ++ running))) in
    ap (λ rest. 32 ∷ rest) parts ∙ ap (λ rest. 32 ∷ (count ++ (32 ∷ (enabled ++ (32 ∷ rest))))) (sym (append-nil running))

use Rattle.std.proofs.Common.{rules}
use Rattle.std.specs.{Prelude.{◌≡◌, ℕ, List, Option, drop, length}, Iterator.Runs.{EachRunFrom, IsSkipRun, SomeRun, WholeRun}}
use Rattle.std.proofs.Common.{◌∙◌}
use Rattle.perf_ask.proofs.collecting.words_of.Goals as goal

-- What is collected behind a skip of one is what the source gives to its end, but for the first.
behind-first : {S T A : Type 0} {steps : S → Option A → S → Type 0} {skipping : T → Option A → T → Type 0} {s : S} {t : T} {words : List A} {n : ℕ}
    → EachRunFrom skipping t (λ p. SomeRun steps s (λ q. IsSkipRun p q 1)) → WholeRun skipping t (λ p. (words ≡ p.items) × (n ≡ length p.items))
    → WholeRun steps s (λ q. words ≡ drop 1 q.items)
behind-first each w = let r : SomeRun _ _ (λ q. IsSkipRun w.0 q 1) = each w.0 w.0.seen w.1 in (r.0, r.1, r.2.0 ∙ w.2, w.3.0 ∙ r.2.2)

pub returns-in-Ok-collect-clause-words : goal.returns-in-Ok-collect-clause-words
returns-in-Ok-collect-clause-words c = rw c.in-Ok.is (behind-first c.skip.ensures.runs (c.in-Ok-collect.ensures.runs tt))

pub returns-in-Err-collect-clause-words : goal.returns-in-Err-collect-clause-words
returns-in-Err-collect-clause-words c = search rules

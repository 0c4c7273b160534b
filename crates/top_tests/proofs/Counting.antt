-- A counter's value and answers after one more call.
use Rattle.std.proofs.Common.{◌≡◌, ℕ, ◌+◌, ◌≤◌, List, [], ◌∷◌, ◌++◌, length-append, refl, sym, ap, ◌∙◌, arith}
use Rattle.top_tests.specs.Counter.{value_after, AnswersValues, HasCounted}

module _ {C : Type 0} (amount : C → ℕ) where
  value_more : (start : ℕ) (entries : List (C × ℕ)) (call : C) (reply : ℕ) → value_after amount start (entries ++ (call, reply) ∷ []) ≡ value_after amount start entries + amount call
  value_more start [] call reply = refl
  value_more start (entry ∷ entries) call reply = value_more (start + amount entry.0) entries call reply

  answers_more : (start : ℕ) (entries : List (C × ℕ)) (call : C) (reply : ℕ) → AnswersValues amount start entries → reply ≡ value_after amount start entries + amount call
      → AnswersValues amount start (entries ++ (call, reply) ∷ [])
  answers_more start [] call reply told is = (is, tt)
  answers_more start (entry ∷ entries) call reply told is = (told.0, answers_more (start + amount entry.0) entries call reply told.1 is)

  pub counts_more : (start value : ℕ) (entries : List (C × ℕ)) (call : C) (reply : ℕ) → HasCounted amount start value entries → reply ≡ value + amount call → amount call ≤ 4294967296
      → HasCounted amount start reply (entries ++ (call, reply) ∷ []) × AnswersValues amount start (entries ++ (call, reply) ∷ [])
  counts_more start value entries call reply counted is fits =
      let sum : reply ≡ value_after amount start entries + amount call = is ∙ ap (λ (n : ℕ). n + amount call) counted.0 in
      let answers : AnswersValues amount start (entries ++ (call, reply) ∷ []) = answers_more start entries call reply counted.2 sum in
      ((sum ∙ sym (value_more start entries call reply), omega (arith, is, counted.1, fits, length-append entries ((call, reply) ∷ [])), answers), answers)

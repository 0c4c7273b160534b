-- Sound lines, and one line more.
use Rattle.std.proofs.Common.{ℕ, ◌+◌, List, [], ◌∷◌, ◌++◌, length, get_or, take, inl, inr, sym, ap, ◌∙◌, arith}
use Rattle.std.proofs.{Math.Seq.{get_or-append_seam}, lemmas.{Bool.{cases_lt}, List.{length_push, take-append-le, take_at, get_or_append_left}}}
use Rattle.script_spec.specs.{Forms.{Version, Form}, Faults.{IsSound}, Texts.{AreSound}}

pub sound_more : (v : Version) (lines : List (List ℕ)) (before : List Form) (line : List ℕ) (f : Form) → AreSound v lines before → IsSound v before line f → AreSound v (lines ++ line ∷ []) (before ++ f ∷ [])
sound_more v lines before line f h s = record {
  as_many = length_push before f ∙ (ap (λ n. n + 1) h.as_many ∙ sym (length_push lines line));
  each = λ k l. elim (cases_lt k (length lines)) [
    | inl less ↦ grind (arith, length, take-append-le, get_or_append_left, less)
    | inr past ↦ grind (arith, length, length_push, take, take_at, get_or, get_or-append_seam)
  ];
}

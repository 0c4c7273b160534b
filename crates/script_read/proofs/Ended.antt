-- What the `end` line of a text asks holds of the script that the text stands for: each processor is of a PMU, and it
-- is not too heavy.
use Rattle.std.proofs.Common.{◌≡◌, ℕ, zero, suc, ◌+◌, ◌<◌, ◌≤◌, All, List, [], ◌∷◌, ◌++◌, length, length-take-le, get_or, take, Result, Ok, Err, inl, inr, refl, sym, ap, subst, ◌∙◌, arith}
use Rattle.std.{proofs.lemmas.{Bool.{cases_lt}, List.{get_or-take}}, specs.Prelude.{IfOk}}
use Rattle.perf_base.specs.{Scripts.{Scripted, IsCovered}, Weight.{weight}}
use Rattle.perf_base.specs.declared.reasons.SReason.TheVariants as reason
use Rattle.script_spec.specs.{Lines.{lines_of}, Forms.{Version, Form}, Meaning.{script_of}, Faults.{IsNoEnd, AreCovered}}
use Rattle.script_spec.{specs.Texts.{version_of, AreSound, StandsFor}, proofs.More.{end_adds_nothing}}
use Rattle.script_spec.specs.Forms as form
use Rattle.script_read.specs.declared.fault.ScriptFault.{ScriptFault}

last_apart : {X : Type 0} (xs : List X) (k : ℕ) (d : X) → k + 1 ≡ length xs → xs ≡ take k xs ++ get_or xs k d ∷ []
last_apart [] k d e = absurd (omega (arith, e))
last_apart (x ∷ []) zero d e = refl
last_apart (x ∷ (y ∷ ys)) zero d e = absurd (omega (arith, e))
last_apart (x ∷ xs) (suc k) d e = ap (λ ys. x ∷ ys) (last_apart xs k d (omega (arith, e)))

-- nothing stands behind an `end` line
end_last : (v : Version) (lines : List (List ℕ)) (forms : List Form) (k : ℕ) → AreSound v lines forms → k < length forms → get_or forms k form.End ≡ form.End → k + 1 ≡ length forms
end_last v lines forms k h l e = elim (cases_lt (k + 1) (length forms)) [
  | inl less ↦
      let front : All IsNoEnd (take (k + 1) forms) = (h.each (k + 1) (omega (arith, h.as_many, less))).keeps reason.End in
      let long : length (take (k + 1) forms) ≡ k + 1 = length-take-le (k + 1) forms (omega (arith, less)) in
      absurd (subst IsNoEnd (get_or-take (k + 1) forms k form.End (omega arith) ∙ e) (front k form.End (omega (arith, long))))
  | inr past ↦ omega (arith, l, past)
]

-- the forms before the `end` line, and what it asks of them
record IsEnded (s : Scripted) : Type 0 where
  forms : List Form
  script : s ≡ script_of forms
  covered : AreCovered forms
  light : weight (script_of forms) ≤ 65536

ended : (text : List ℕ) (s : Scripted) → StandsFor text s → IsEnded s
ended text s stands =
    let forms = stands.0 in
    let whole = stands.1 in
    let k = whole.has_end.0 in
    let l : k < length forms = whole.has_end.2 in
    let is_end : get_or forms k form.End ≡ form.End = subst (λ f. get_or forms k f ≡ f) whole.has_end.4 whole.has_end.3 in
    let sound = whole.sound.each k (omega (arith, l, whole.sound.as_many)) in
    let spelled = rw is_end at sound.is in
    let last : forms ≡ take k forms ++ form.End ∷ [] = last_apart forms k form.End (end_last (version_of (lines_of text)) (lines_of text) forms k whole.sound l is_end) ∙ ap (λ f. take k forms ++ f ∷ []) is_end in
    record {
      forms = take k forms;
      script = stands.2 ∙ (ap script_of last ∙ end_adds_nothing (take k forms));
      covered = (sound.keeps reason.Place form.End spelled).covered;
      light = sound.keeps reason.Weight form.End spelled;
    }

script_covered : (forms : List Form) → AreCovered forms → IsCovered (script_of forms)
unfolding script_of
script_covered forms h = h

stands_covered : (text : List ℕ) (s : Scripted) → StandsFor text s → IsCovered s
stands_covered text s stands = let e = ended text s stands in subst IsCovered (sym e.script) (script_covered e.forms e.covered)

stands_light : (text : List ℕ) (s : Scripted) → StandsFor text s → weight s ≤ 65536
stands_light text s stands = let e = ended text s stands in subst (λ t. weight t ≤ 65536) (sym e.script) e.light

pub read_covered : {X : Type 0} (script : X → Scripted) (Has : X → Type 0) (text : List ℕ) (r : Result X ScriptFault) → IfOk r (λ x. StandsFor text (script x) × Has x) → IfOk r (λ x. IsCovered (script x))
read_covered script Has text (Ok x) ok = stands_covered text (script x) ok.0
read_covered script Has text (Err e) ok = tt

pub read_light : {X : Type 0} (script : X → Scripted) (Has : X → Type 0) (text : List ℕ) (r : Result X ScriptFault) → IfOk r (λ x. StandsFor text (script x) × Has x) → IfOk r (λ x. weight (script x) ≤ 65536)
read_light script Has text (Ok x) ok = stands_light text (script x) ok.0
read_light script Has text (Err e) ok = tt

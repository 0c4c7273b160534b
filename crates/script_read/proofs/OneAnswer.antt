-- A text stands for at most one script, or is refused at one line for one reason, and never both.
use Rattle.std.proofs.Common.{◌≡◌, ℕ, zero, suc, ◌+◌, ◌<◌, ◌≤◌, ◌⊎◌, All, List, [], ◌∷◌, length, length-take-le, get_or, take, Result, Ok, Err, inl, inr, refl, sym, ap, subst, ◌∙◌, arith}
use Rattle.std.{proofs.lemmas.{Bool.{cases_order}, List.{ext_get_or, get_or-take}}, specs.Prelude.{Any, IfOk, IfErr, MatchResult}}
use Rattle.perf_base.specs.{declared.reasons.SReason.{SReason}, Scripts.{Scripted}}
use Rattle.perf_base.specs.declared.reasons.SReason.TheVariants as reason
use Rattle.script_spec.specs.{Lines.{words_of, lines_of}, Forms.{Version, Form}, Meaning.{script_of}, Faults.{IsNoEnd, IsSound, IsFaulty, rank}}
use Rattle.script_spec.specs.Texts.{version_of, AreSound, StandsFor, HasFaultyLine, IsRefused}
use Rattle.script_spec.specs.Forms as form
use Rattle.line_forms.proofs.Laws.{one_form}
use Rattle.script_read.specs.{declared.fault.ScriptFault.{ScriptFault}, Reading.{IsBlamed}}
use Rattle.script_read.specs.declared.fault.ScriptFault.TheVariants as fault

take_front : {X : Type 0} (k n : ℕ) (xs : List X) → k ≤ n → take k (take n xs) ≡ take k xs
take_front zero n xs l = refl
take_front (suc k) zero xs l = absurd (omega (arith, l))
take_front (suc k) (suc n) [] l = refl
take_front (suc k) (suc n) (x ∷ xs) l = ap (λ ys. x ∷ ys) (take_front k n xs (omega (arith, l)))

-- lines have at most one list of forms
pub forms_one : (v : Version) (lines : List (List ℕ)) (f g : List Form) → AreSound v lines f → AreSound v lines g → f ≡ g
forms_one v lines f g a b =
    ext_get_or form.End f g (a.as_many ∙ sym b.as_many) (λ k l.
    let w : k < length lines = omega (arith, l, a.as_many) in
    one_form v (words_of (get_or lines k [])) (get_or f k form.End) (get_or g k form.End) (a.each k w).is (b.each k w).is)

front_sound : (v : Version) (lines : List (List ℕ)) (forms : List Form) (n : ℕ) → n ≤ length lines → AreSound v lines forms → AreSound v (take n lines) (take n forms)
front_sound v lines forms n l h = grind (arith, length, take, length-take-le, take_front, get_or-take)

-- no faulty line is among sound ones
clash : (v : Version) (lines : List (List ℕ)) (forms before : List Form) (r : SReason) → AreSound v lines forms → length before < length lines → AreSound v (take (length before) lines) before → IsFaulty v before (get_or lines (length before) []) r → ⊥
clash v lines forms before r all l front bad =
    let same : before ≡ take (length before) forms = forms_one v (take (length before) lines) before (take (length before) forms) front (front_sound v lines forms (length before) (omega arith) all) in
    let s = subst (λ fs. IsSound v fs (get_or lines (length before) []) (get_or forms (length before) form.End)) (sym same) (all.each (length before) l) in
    bad.broken (s.keeps r)

-- the reason at a rank
abbrev pub ranked : ℕ → SReason
ranked zero = reason.End
ranked (suc zero) = reason.Ascii
ranked (suc (suc zero)) = reason.Form
ranked (suc (suc (suc zero))) = reason.Place
ranked (suc (suc (suc (suc zero)))) = reason.Range
ranked (suc (suc (suc (suc (suc zero))))) = reason.Attr
ranked (suc (suc (suc (suc (suc (suc zero)))))) = reason.Name
ranked (suc (suc (suc (suc (suc (suc (suc zero))))))) = reason.Limit
ranked (suc (suc (suc (suc (suc (suc (suc (suc zero)))))))) = reason.Weight
ranked other = reason.Order

pub ranked_back : (r : SReason) → ranked (rank r) ≡ r
ranked_back reason.End = refl
ranked_back reason.Ascii = refl
ranked_back reason.Form = refl
ranked_back reason.Place = refl
ranked_back reason.Range = refl
ranked_back reason.Attr = refl
ranked_back reason.Name = refl
ranked_back reason.Limit = refl
ranked_back reason.Weight = refl
ranked_back reason.Order = refl

-- the ranks are all different
pub rank_one : (r q : SReason) → rank r ≡ rank q → r ≡ q
rank_one r q e = sym (ranked_back r) ∙ (ap ranked e ∙ ranked_back q)

-- a line is refused for one reason
reason_one : (v : Version) (before : List Form) (line : List ℕ) (r q : SReason) → IsFaulty v before line r → IsFaulty v before line q → r ≡ q
reason_one v before line r q a b = grind (arith, cases_order, rank_one)

no_end : (forms : List Form) → Any (λ f. f ≡ form.End) forms → All IsNoEnd forms → ⊥
no_end forms a all = subst IsNoEnd (a.3 ∙ a.4) (all a.0 a.1 a.2)

pub stands_one : (text : List ℕ) (s t : Scripted) → StandsFor text s → StandsFor text t → s ≡ t
stands_one text s t a b = a.2 ∙ (ap script_of (forms_one (version_of (lines_of text)) (lines_of text) a.0 b.0 a.1.sound b.1.sound) ∙ sym b.2)

pub stands_or_refused : (text : List ℕ) (s : Scripted) (line : ℕ) (r : SReason) → StandsFor text s → IsRefused text line r → ⊥
stands_or_refused text s line r a b = grind (arith, clash, no_end, forms_one)

inside : (text : List ℕ) (x y : List Form) (l : ℕ) (r : SReason) → HasFaultyLine text x l r → AreSound (version_of (lines_of text)) (take (length y) (lines_of text)) y → length y ≤ length (lines_of text) → length x < length y → ⊥
inside text x y l r a sound le less = grind (arith, length, take, length-take-le, take_front, get_or, get_or-take, clash)

faulty_one : (text : List ℕ) (x y : List Form) (l m : ℕ) (r q : SReason) → HasFaultyLine text x l r → HasFaultyLine text y m q → (l ≡ m) × (r ≡ q)
faulty_one text x y l m r q a b = elim (cases_order (length x) (length y)) [
  | inl same ↦
      let forms : x ≡ y = forms_one (version_of (lines_of text)) (take (length x) (lines_of text)) x y a.sound (subst (λ k. AreSound (version_of (lines_of text)) (take k (lines_of text)) y) (sym same) b.sound) in
      let site : IsFaulty (version_of (lines_of text)) x (get_or (lines_of text) (length x) []) q = subst (λ fs. IsFaulty (version_of (lines_of text)) fs (get_or (lines_of text) (length fs) []) q) (sym forms) b.faulty in
      (a.number ∙ (ap (λ k. k + 1) same ∙ sym b.number), reason_one (version_of (lines_of text)) x (get_or (lines_of text) (length x) []) r q a.faulty site)
  | inr (inl less) ↦ absurd (inside text x y l r a b.sound (omega (arith, b.within)) less)
  | inr (inr more) ↦ absurd (inside text y x m q b a.sound (omega (arith, a.within)) more)
]

pub refused_one : (text : List ℕ) (l m : ℕ) (r q : SReason) → IsRefused text l r → IsRefused text m q → (l ≡ m) × (r ≡ q)
refused_one text l m r q a b = elim a.1 [
  | inl f ↦ elim b.1 [
    | inl g ↦ faulty_one text a.0 b.0 l m r q f g
    | inr (inl d) ↦ absurd (clash (version_of (lines_of text)) (lines_of text) b.0 a.0 r d.sound f.within f.sound f.faulty)
    | inr (inr d) ↦ absurd (clash (version_of (lines_of text)) (lines_of text) b.0 a.0 r d.sound f.within f.sound f.faulty)
  ]
  | inr (inl c) ↦ elim b.1 [
    | inl g ↦ absurd (clash (version_of (lines_of text)) (lines_of text) a.0 b.0 q c.sound g.within g.sound g.faulty)
    | inr (inl d) ↦ (c.number ∙ sym d.number, c.is_end ∙ sym d.is_end)
    | inr (inr d) ↦ absurd (c.more d.ended)
  ]
  | inr (inr c) ↦ elim b.1 [
    | inl g ↦ absurd (clash (version_of (lines_of text)) (lines_of text) a.0 b.0 q c.sound g.within g.sound g.faulty)
    | inr (inl d) ↦ absurd (d.more c.ended)
    | inr (inr d) ↦ (c.number ∙ sym d.number, c.is_end ∙ sym d.is_end)
  ]
]

-- so what was read is the only answer
module _ {X : Type 0} (script : X → Scripted) (Has : X → Type 0) (text : List ℕ) where
  pub only_script : (r : Result X ScriptFault) → IfOk r (λ x. StandsFor text (script x) × Has x) → IfErr r (IsBlamed text) → (s : Scripted) → StandsFor text s → MatchResult r (λ x. script x ≡ s) (λ e. e ≡ fault.NoMemory)
  only_script (Ok x) ok bad s h = stands_one text (script x) s ok.0 h
  only_script (Err (fault.Bad line q)) ok bad s h = absurd (stands_or_refused text s line q h bad)
  only_script (Err fault.NoMemory) ok bad s h = refl

  pub only_refusal : (r : Result X ScriptFault) → IfOk r (λ x. StandsFor text (script x) × Has x) → IfErr r (IsBlamed text) → (line : ℕ) (q : SReason) → IsRefused text line q → MatchResult r (λ x. ⊥) (λ e. (e ≡ fault.Bad line q) ⊎ (e ≡ fault.NoMemory))
  only_refusal (Ok x) ok bad line q h = stands_or_refused text (script x) line q ok.0 h
  only_refusal (Err (fault.Bad m p)) ok bad line q h = let one = refused_one text m line p q bad h in inl (ap (λ k. fault.Bad k p) one.0 ∙ ap (fault.Bad line) one.1)
  only_refusal (Err fault.NoMemory) ok bad line q h = inr refl
